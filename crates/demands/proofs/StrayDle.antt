-- The stray DLE of document 02, section 2, over what deliveries to the stream reader leave and hand up.
-- Assumes nothing.
use Prim.Native.Nat.{ℕ}
use mathlib.Core.Path.{◌≡◌, refl, sym, ap, ◌∙◌}
use mathlib.Core.List.{List, [], ◌∷◌, ◌++◌}
use lib.ListN.{length}
use Rattle.protocol.specs.Numbers.{no_preamble, DLE}
use Rattle.protocol.specs.Frame.{received, refused, read_frame}
use Rattle.protocol.specs.Stream.{Stream, begin, after, handed_up}
use Rattle.protocol.proofs.StreamLaws.{Leads, strays_open, strays_lost, first_sending}
use Rattle.stream.specs.State.{standing}
use Rattle.stream.specs.Delivery.{Delivery, joined, handed_by, state_after}
use Rattle.stream.proofs.DeliveryLaws.{deliveries, state_after_lem}
use Rattle.demands.specs.StrayDle.{Took, Leaves, StrayDle}

module _ {a : ℕ} {state before more : List ℕ} {ds : List Delivery} (t : Took a state ds before more) where
  handed : handed_by 0 ds ≡ handed_up a (before ++ more)
  handed = (deliveries a state ds t.begins t.calls).in_order ∙ ap (handed_up a) t.bytes

  stands : standing (state_after state ds) ≡ after begin (before ++ more)
  stands =
      (state_after_lem a state ds t.begins.form t.calls).1
      ∙ ap (λ s. after s (joined ds)) t.begins.outside
      ∙ ap (after begin) t.bytes

  leaves : {s : Stream} → Leads a before more s → Leaves a state ds before s
  leaves l = record { stands = stands ∙ l.state; none_handed = handed ∙ l.none_handed }

two_dles : (a : ℕ) (rest : List ℕ) → read_frame a (DLE ∷ DLE ∷ rest) ≡ refused no_preamble
unfolding read_frame
two_dles a rest = refl

pub stray_dle : (address : ℕ) → StrayDle address
stray_dle a =
    record {
      opens = λ state ds before n t. leaves t (strays_open a n t.waiting before t.left_outside);
      others = λ state ds before n b e f t. leaves t (strays_lost a n t.waiting before b t.left_outside e f);
      first_sending = λ state ds before d n h t.
          handed t
          ∙ first_sending a n t.waiting before d t.left_outside h
          ∙ ap (λ e. handed_up a before ++ record { frame = received d; end = e } ∷ []) (sym (ap length t.bytes));
      strings = two_dles a;
    }
