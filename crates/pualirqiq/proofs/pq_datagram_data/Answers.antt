-- `pualirqiq::pq_datagram_data` meets its contract. Assumes nothing.
use Rattle.std.proofs.Common.{◌≡◌, ◌-◌, length, refl, sym, ap, subst, ◌∙◌}
use Rattle.protocol.specs.Frame.{read_datagram}
use Rattle.protocol.proofs.RefusalLaws.{refusal_some}
use Rattle.pualirqiq.specs.Calls.{Locates}
use Rattle.pualirqiq.proofs.BackLaws.{locates_none, locates_data}
use Rattle.pualirqiq.proofs.pq_datagram_data.Goals as goal

pub returns-in-Ok : goal.returns-in-Ok
returns-in-Ok c =
    let s = c.args.datagram.now in
    let told = locates_data s c.in-Ok.ensures.number refl in
    let len : length c.in-Ok.payload.now ≡ length s - 4 = ap length c.in-Ok.ensures.payload ∙ sym told.len_is in
    subst (λ n. Locates (read_datagram s) s 0 4 n) (sym len) told

pub returns-in-Err : goal.returns-in-Err
returns-in-Err c =
    rw c.into.ensures (locates_none c.args.datagram.now c.in-Err.ensures.number (refusal_some c.in-Err.refusal))
