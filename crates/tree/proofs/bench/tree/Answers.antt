-- `tree::bench::tree` meets its contract. Assumes nothing.
use mathlib.Core.Path.{refl}
use Rattle.protocol.specs.Bytes.{half, word, text, texts}
use Rattle.protocol.specs.Bench.{bench_tree}
use Rattle.tree.specs.Form.{all_texts, all_records, node_record, property_record, tree_form}
use Rattle.tree.proofs.bench.tree.Goals as goal

pub returns : goal.returns
unfolding tree_form all_texts all_records node_record property_record text texts half word bench_tree
returns c = refl
