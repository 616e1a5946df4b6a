-- 02, section 7: which part of the path, over what the calls promise and over the numbering of before.
-- Assumes nothing.
use Prim.Native.Nat.{ℕ, ◌<◌, ◌≤◌}
use native.Mathlib.Omega.{arith}
use mathlib.Core.Path.{◌≡◌, refl, sym, ap, subst, ◌∙◌}
use mathlib.Core.Bool.{Bool, true, false, cond}
use mathlib.Core.List.{List, [], ◌∷◌}
use mathlib.Core.Logic.{◌↔◌}
use mathlib.Core.Option.{Option, none, some}
use borrow.Author.Tests.{eqb-true, eqb-false, ltb-true, ltb-false}
use lib.ListN.{length}
use lib.Seq.{take_all}
use lib.Dec.{eqb, ltb}
use Rattle.protocol.specs.Numbers.{done, bad_parameter, no_reading, not_saved, no_such_node, no_such_property, ERROR, ACK, op_detect, op_node, op_record, op_read}
use Rattle.protocol.specs.Buffer.{over}
use Rattle.protocol.specs.Request.{Request, read_request}
use Rattle.protocol.specs.Tree.{Tree, Cell, property_of, node_at, property_in, cell_in, readable, reading}
use Rattle.protocol.specs.Path.{missing_length, FirstMissing, no_node, no_property, failure_number, failure_length, number01}
use Rattle.protocol.specs.Answer.{Answer, plain, refuse, failed, refusal_code, ReadAs, Outcome, saved, taken, read_only, out_of_range, off_step, outcome, write_number, on_read, on_write, on_property, if_property, if_node, perform, if_asked, answer_by, answer, node_reply, record_reply, read_reply}
use Rattle.protocol.proofs.TestLaws.{if_both}
use Rattle.protocol.proofs.RequestLaws.{path_some}
use Rattle.protocol.proofs.PathLaws.{first_missing, number_kept}
use Rattle.protocol.proofs.AnswerLaws as laws
use Rattle.protocol.proofs.AnswerLaws.{read_fits, read_request-fits, declined_answered, node_lost_answered, property_lost_answered, refusal_keeps}
use Rattle.tree.specs.Seen.{seen}
use Rattle.cells.specs.Cells.{cells_in}
use Rattle.cells.specs.Lent.{is_lent, Read, read_of, Reads, read_in}
use Rattle.answer.specs.Serve.{Call, in_form, serving, Serves}
use Rattle.answer.proofs.ReadLaws.{Early, early_sized, early_frame, early_datagram}
use Rattle.answer.proofs.ServeLaws.{answer_to, serve_good}
use Rattle.demands.specs.Serving.{tree_in}
use Rattle.demands.specs.PathParts.{Admitted, NoProperty, PartTold, PathServed, failure01, renumbered, PathsKeep}
use Rattle.demands.proofs.Serving.{Served, handled, opened, unchanged}

-- A write is answered with 0 or 13.
written-number : (o : Outcome) → (write_number o ≤ not_saved) × (write_number o ≡ bad_parameter → ⊥)
unfolding write_number
written-number saved = (omega arith, λ e. omega (arith, e))
written-number taken = (omega arith, λ e. omega (arith, e))
written-number read_only = (omega arith, λ e. omega (arith, e))
written-number out_of_range = (omega arith, λ e. omega (arith, e))
written-number off_step = (omega arith, λ e. omega (arith, e))

module _ (k : Call) (early : Early k.string) {out cells' out' : List ℕ} {n size action missing : ℕ}
    (h : Serves (serving k) out n size action missing cells' out')
  where
    abbrev t : Tree
    t = tree_in k

    abbrev cs : List Cell
    cs = cells_in k.cells

    abbrev bs : List ℕ
    bs = k.string.payload

    -- How data is answered, as far as 11, 15 and 16 go: every other answer tells no length.
    data Told : Answer → Type 0 where
      shape : (read_request bs).number ≡ bad_parameter → Told (refuse cs bad_parameter)
      no_node_case : (r : Request) → ReadAs bs r → op_detect < r.op → node_at t r.path ≡ none
          → Told (failed failure_number cs (no_node (missing_length t r.path)))
      no_property_case : (r : Request) → ReadAs bs r → NoProperty t r → Told (failed failure_number cs no_property)
      other : (a : Answer) → (number01 a.number ≡ bad_parameter → ⊥) → a.missing ≡ 0 → Told a

    replied : (bs : List ℕ) → Told (plain cs done bs)
    unfolding number01
    replied bs = other (plain cs done bs) (λ e. omega (arith, e)) refl

    refusal_told : (m : ℕ) → m ≤ no_reading → (m ≡ bad_parameter → (read_request bs).number ≡ bad_parameter) → (b : Bool) → eqb m bad_parameter ≡ b
        → Told (refuse cs m)
    refusal_told m v s true e =
        let is : m ≡ bad_parameter = eqb-true m bad_parameter e in subst (λ i. Told (refuse cs i)) (sym is) (shape (s is))
    refusal_told m v s false e =
        other (refuse cs m) (λ z. eqb-false m bad_parameter e (sym (number_kept m (omega (arith, v))) ∙ z)) refl

    by_answer : {a : Answer} → laws.Answered t cs bs a → Told a
    unfolding on_write
    by_answer (laws.refused m u v s) = refusal_told m v s (eqb m bad_parameter) refl
    by_answer (laws.no_node_case r asks op lost) = no_node_case r asks op lost
    by_answer (laws.no_property_case r node asks op at lost) =
        no_property_case r asks (record { for_property = op; node = node; at_node_lem = at; no_property_case = lost })
    by_answer laws.acknowledged = replied (ACK ∷ [])
    by_answer (laws.node_described r node asks) = replied (node_reply t node r)
    by_answer (laws.record-described r place asks) = replied (record_reply (property_in t place) r)
    by_answer (laws.word_read r place asks) = replied (read_reply (cell_in cs place) r)
    by_answer (laws.written r place w) =
        let o : Outcome = outcome (property_in t place) r.value in
        let number = written-number o in
        other (on_write cs place r o) (λ e. number.1 (sym (number_kept (write_number o) (omega (arith, number.0))) ∙ e)) refl

    told_by : Told (answer_to k)
    told_by = by_answer (laws.answered t cs bs k.host)

    -- What each number tells of the request, and the length.
    part_told : n ≡ no_such_node → {a : Answer} → Told a → n ≡ a.number → missing ≡ a.missing → PartTold k missing
    unfolding failure_number failure_length number01
    part_told e (shape s) f g = absurd (omega (arith, e, f))
    part_told e (no_node_case r asks op lost) f g =
        record {
          request = r;
          asks = asks;
          first = subst (FirstMissing t r.path) (sym g) (first_missing t r.path lost (path_some r (read_fits bs r asks) op));
        }
    part_told e (no_property_case r asks p) f g = absurd (omega (arith, e, f))
    part_told e (other a u z) f g = absurd (u (ap number01 (sym f ∙ e)))

    no_part_told : (n ≡ no_such_node → ⊥) → {a : Answer} → Told a → n ≡ a.number → missing ≡ a.missing → missing ≡ 0
    unfolding failure_number failure_length
    no_part_told u (shape s) f g = g
    no_part_told u (no_node_case r asks op lost) f g = absurd (u f)
    no_part_told u (no_property_case r asks p) f g = g
    no_part_told u (other a v z) f g = g ∙ z

    shape_told : n ≡ bad_parameter → {a : Answer} → Told a → n ≡ a.number → (read_request bs).number ≡ bad_parameter
    unfolding failure_number number01
    shape_told e (shape s) f = s
    shape_told e (no_node_case r asks op lost) f = absurd (omega (arith, e, f))
    shape_told e (no_property_case r asks p) f = absurd (omega (arith, e, f))
    shape_told e (other a u z) f = absurd (u (ap number01 (sym f ∙ e)))

    property_told : n ≡ no_such_property → (r : Request) → ReadAs bs r → {a : Answer} → Told a → n ≡ a.number → NoProperty t r
    unfolding failure_number number01
    property_told e r is (shape s) f = absurd (omega (arith, e, f))
    property_told e r is (no_node_case q asks op lost) f = absurd (omega (arith, e, f))
    property_told e r is (no_property_case q asks p) f = subst (NoProperty t) (ap (λ a. a.request) (sym asks ∙ is)) p
    property_told e r is (other a u z) f = absurd (u (ap number01 (sym f ∙ e)))

    -- Each of the three is 54.
    error_told : number01 n ≡ bad_parameter → {a : Answer} → Told a → n ≡ a.number → a.reply ≡ ERROR ∷ []
    unfolding failure_number refusal_code
    error_told e (shape s) f = refl
    error_told e (no_node_case r asks op lost) f = refl
    error_told e (no_property_case r asks p) f = refl
    error_told e (other a u z) f = absurd (u (ap number01 (sym f) ∙ e))

    error-served : number01 n ≡ bad_parameter → Served k early h → (out' ≡ over (k.form (ERROR ∷ [])) out) × (cells' ≡ k.cells)
    unfolding number01
    error-served e s = (
      s.gives.bytes ∙ ap (λ l. over (k.form l) out) (error_told e told_by s.gives.number),
      unchanged k early h s
          (refusal_keeps t cs k.host bs (λ z. omega (arith, e, ap number01 (s.gives.number ∙ z)))),
    )

    -- What an admitted call gives.
    numbered : (a : Admitted k) {b : Answer} → answer t cs true bs ≡ b → n ≡ b.number
    numbered a e =
        (opened k early h a.opens a.received).gives.number
        ∙ ap (λ b. (answer t cs b bs).number) a.host_on ∙ ap (λ x. x.number) e

    told : n ≡ no_such_node → PartTold k missing
    told e = handled k early h
        (λ r. absurd (omega (arith, r.before, e)))
        (λ s. part_told e told_by s.gives.number s.gives.tells)

    -- A request of which a part is told has no node.
    told_lost : (r : Request) → ReadAs bs r → PartTold k missing → node_at t r.path ≡ none
    told_lost r is p =
        let path : List ℕ = p.request.path in
        ap (λ a. node_at t a.request.path) (sym is ∙ p.asks)
        ∙ ap (node_at t) (sym (take_all (length path) path (omega arith)))
        ∙ p.first.longer (length path) p.first.most

    path_served : PathServed k out n missing cells' out'
    unfolding failure_number
    path_served =
        record {
          shape = λ a. (
            λ e. shape_told e told_by (opened k early h a.opens a.received).gives.number,
            λ e. numbered a (declined_answered t cs bs (λ z. omega (arith, e, z))) ∙ e,
          );
          no_node_case = λ r l. (
            λ e. told_lost r l.asks (told e),
            λ e. numbered l.admitted (node_lost_answered t cs bs r l.asks l.has_path e),
          );
          no_property_case = λ r l. (
            λ e.
                property_told e r l.asks told_by
                (opened k early h l.admitted.opens l.admitted.received).gives.number,
            λ p. numbered l.admitted (property_lost_answered t cs bs r l.asks p.for_property p.at_node_lem p.no_property_case),
          );
          told = told;
          told_0 = λ u. handled k early h
              (λ r. r.no_part)
              (λ s. no_part_told u told_by s.gives.number s.gives.tells);
          code = λ e. handled k early h
              (λ r. absurd (omega (arith, e, number_kept n (omega (arith, r.before)), r.before)))
              (error-served e);
        }

-- An answer with its number as in document 01; one whose number is below 15 is as it was.
abbrev renumber : Answer → Answer
renumber a = record { number = number01 a.number; reply = a.reply; cells = a.cells; action = a.action; missing = a.missing }

record Below (a : Answer) : Type 0 where
  below : a.number < no_such_node

renumber_same : (a : Answer) → Below a → renumber a ≡ a
renumber_same a b =
    ap (λ m. record { number = m; reply = a.reply; cells = a.cells; action = a.action; missing = a.missing })
    (number_kept a.number b.below)

renumber_if : (b : Bool) (x x' y y' : Answer) → renumber x ≡ x' → (b ≡ false → renumber y ≡ y') → renumber (cond b x y) ≡ cond b x' y'
renumber_if true x x' y y' e f = e
renumber_if false x x' y y' e f = f refl

-- The numberings differ where a lookup fails, and nowhere else.
module _ (t : Tree) (cs : List Cell) where
  property_below : (r : Request) (place : ℕ) → Below (on_property outcome t cs r place)
  unfolding on_property on_read on_write
  property_below r place =
      if_both Below (eqb r.op op_record) (record { below = omega arith })
      (if_both Below (eqb r.op op_read)
      (if_both Below (readable (property_in t place) (cell_in cs place)) (record { below = omega arith }) (record { below = omega arith }))
      (record { below = omega (arith, (written-number (outcome (property_in t place) r.value)).0) }))

  if_property_lem : (r : Request) (o : Option ℕ) → renumber (if_property outcome failure_number t cs r o) ≡ if_property outcome failure01 t cs r o
  unfolding if_property failure_number number01 refusal_code
  if_property_lem r none = refl
  if_property_lem r (some place) = renumber_same (on_property outcome t cs r place) (property_below r place)

  if_node_lem : (r : Request) (o : Option ℕ) → renumber (if_node outcome failure_number t cs r o) ≡ if_node outcome failure01 t cs r o
  unfolding if_node failure_number failure_length number01 refusal_code
  if_node_lem r none = refl
  if_node_lem r (some node) =
      renumber_if (eqb r.op op_node) (plain cs done (node_reply t node r)) (plain cs done (node_reply t node r)) _ _ refl
      (λ z. if_property_lem r (property_of t node (record { 0 = r.index })))

  performed : (r : Request) → renumber (perform outcome failure_number t cs r) ≡ perform outcome failure01 t cs r
  unfolding perform number01
  performed r =
      renumber_if (eqb r.op op_detect) (plain cs done (ACK ∷ [])) (plain cs done (ACK ∷ [])) _ _ refl (λ z. if_node_lem r (node_at t r.path))

  pub same_numbering : (host : Bool) (bs : List ℕ) → renumber (answer t cs host bs) ≡ answer_by outcome failure01 t cs host bs
  unfolding answer_by if_asked number01
  same_numbering false bs = refl
  same_numbering true bs =
      let n : ℕ = (read_request bs).number in
      renumber_if (eqb n done) _ _ (refuse cs n) (refuse cs n) (performed (read_request bs).request)
      (λ z. renumber_same (refuse cs n) (record { below = omega (arith, ((read_request-fits bs).late (eqb-false n done z)).1) }))

-- A reading asked for by place.
no_reading_16 : (o : Option ℕ) → (read_of o).number ≡ no_such_property → ⊥
no_reading_16 none e = omega (arith, e)
no_reading_16 (some m) e = omega (arith, e)

reading_numbers : (tree cells : List ℕ) (place old : ℕ) {n word : ℕ} → is_lent tree cells ≡ true → Reads (read_in tree cells place) old n word
    → (n ≡ no_such_property) ↔ (length (seen tree).properties ≤ place)
unfolding read_in
reading_numbers tree cells place old {n} lent h = go (ltb place (length (seen tree).properties)) refl (rw lent at h.number)
  where
    read : Read
    read = read_of (reading (property_in (seen tree) place) (cell_in (cells_in cells) place))

    go : (b : Bool) → ltb place (length (seen tree).properties) ≡ b
        → n ≡ (cond b read (record { number = no_such_property; word = none })).number
        → (n ≡ no_such_property) ↔ (length (seen tree).properties ≤ place)
    go true e f = (
      λ is. absurd (no_reading_16 (reading (property_in (seen tree) place) (cell_in (cells_in cells) place)) (sym f ∙ is)),
      λ l. absurd (omega (arith, l, ltb-true place (length (seen tree).properties) e)),
    )
    go false e f = (λ is. ltb-false place (length (seen tree).properties) e, λ l. f)

pub paths_keep : PathsKeep
paths_keep =
    record {
      by_data = λ room bs host tree cells h. path_served _ (early_sized bs) h;
      by_serial = λ address room s host tree cells h. path_served _ (early_frame address s) h;
      by_udp = λ room s host tree cells h. path_served _ (early_datagram s) h;
      unnoticed = λ k o good.
          ap renumbered (serve_good k o good)
          ∙ ap (in_form k.form) (same_numbering (tree_in k) (cells_in k.cells) k.host k.string.payload);
      readings = reading_numbers;
    }
