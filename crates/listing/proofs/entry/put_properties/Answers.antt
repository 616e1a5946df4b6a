-- `listing::entry::put_properties` meets its contract. Assumes nothing.
use native.Mathlib.Omega.{arith}
use mathlib.Core.Path.{refl, ◌∙◌}
use lib.ListN.{length}
use Rattle.std.proofs.Common.{◌<◌, ◌+◌, ◌*◌}
use Rattle.tree.specs.Seen.{seen}
use Rattle.tree.proofs.FieldLaws.{property_count_lem}
use Rattle.listing.proofs.EntryLaws.{owning_begins, row_within, row_node, owning_past, owning_here, owning_ends}
use Rattle.listing.proofs.entry.put_properties.Goals as goal
use Rattle.listing.proofs.entry.put_properties.Goals.{In-loop-p}

-- There is a property, and its record.
listed : (c : In-loop-p) → c.loop-p.p < length (seen c.args.tree.bytes.now).properties
listed c = omega (arith, c.loop-p-test.true, c.property_count-p-end.ensures)

row : (c : In-loop-p) → c.properties_start-start.result + c.loop-p.p * 16 < length c.args.tree.bytes.now
row c = row_within c.args.tree.bytes.now c.properties_start-start.ensures refl (listed c) c.args.tree.sound

pub loop-p-init : goal.loop-p-init
loop-p-init c = owning_begins c.args.tree.bytes.now c.args.k c.args.path.now c.args.output.now

pub overflow_mul-p : goal.overflow_mul-p
overflow_mul-p c = omega (arith, row c)

pub overflow_add-start : goal.overflow_add-start
overflow_add-start c = omega (arith, row c)

pub bounds-bytes-start : goal.bounds-bytes-start
bounds-bytes-start c = row (goal.at.bounds-bytes-start c).In-loop-p

pub loop-p-preserved-then-from-k : goal.loop-p-preserved-then-from-k
loop-p-preserved-then-from-k c =
    let bytes = c.args.tree.bytes.now in
    let here = listed (goal.at.loop-p-preserved-then-from-k c).In-loop-p in
    owning_past bytes c.args.path.now c.loop-p.invariant here
    (c.from.ensures ∙ row_node bytes c.properties_start-start.ensures refl here) c.if-from-k.true

pub overflow_add-index : goal.overflow_add-index
overflow_add-index c =
    omega (arith, c.loop-p.invariant.few, listed (goal.at.overflow_add-index c).In-loop-p, property_count_lem c.args.tree.bytes.now, c.type_inv.bytes 1)

pub loop-p-preserved : goal.loop-p-preserved
loop-p-preserved c =
    let bytes = c.args.tree.bytes.now in
    let here = listed (goal.at.loop-p-preserved c).In-loop-p in
    owning_here bytes c.args.path.now c.loop-p.invariant here
    (c.from.ensures ∙ row_node bytes c.properties_start-start.ensures refl here) c.if-from-k.false c.put_property.ensures

pub returns : goal.returns
returns c =
    owning_ends c.args.tree.bytes.now c.args.path.now c.loop-p.invariant
    (omega (arith, c.loop-p-test.false, c.property_count-p-end.ensures))
