-- `buslink::probe::of_word` meets its contract. Assumes nothing.
use mathlib.Core.Path.{ap, ◌∙◌}
use Rattle.std.proofs.Common.{rules, w32, of_z}
use Rattle.std.proofs.lemmas.Int.{to_z-of_z}
use Rattle.protocol.specs.Signed.{number_of}
use Rattle.buslink.specs.Send.{scaled}
use Rattle.buslink.proofs.ValueLaws.{number_told, scaled_told, sent_value, sent_none}
use Rattle.buslink.proofs.probe.of_word.Goals as goal

pub returns-in-Some : goal.returns-in-Some
returns-in-Some c =
    let n = number_of c.args.signed c.args.w in
    sent_value c.args.code (scaled c.args.code n) (scaled_told c.args.code n (number_told c.args.signed c.args.w c.ranges.w.fits))
    c.in-Some.ensures (c.cast_unsigned.ensures ∙ ap (of_z w32) (to_z-of_z w32 c.in-Some.value (search rules)))

pub returns-in-None : goal.returns-in-None
returns-in-None c = sent_none c.args.code (scaled c.args.code (number_of c.args.signed c.args.w)) c.in-None.ensures
