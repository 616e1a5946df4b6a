-- Steps, of document 02, section 6: over what the calls promise, and over the rules as they were before.
-- Assumes nothing.
use Prim.Native.Nat.{ℕ}
use native.Mathlib.Omega.{arith}
use mathlib.Core.Path.{◌≡◌, refl, sym, ap, subst, ◌∙◌}
use mathlib.Core.Bool.{Bool, true, false, cond, not, ◌&&◌, and-true, false≢true}
use mathlib.Core.List.{List}
use borrow.Author.Tests.{eqb-true}
use lib.ListN.{length}
use lib.Dec.{eqb, leb}
use Rattle.protocol.specs.Numbers.{done, not_saved, standard, enumeration, max_properties, last_step_code}
use Rattle.protocol.specs.Bytes.{Bytes, every, at_most}
use Rattle.protocol.specs.Buffer.{over}
use Rattle.protocol.specs.Request.{Request}
use Rattle.protocol.specs.Tree.{Property, Tree, Cell, can_read, can_write, is_signed, step_code, property_in, cell_in, standard_sound, enumeration_sound, kind_sound, property_sound, nodes_sound, properties_sound, sound}
use Rattle.protocol.specs.Step.{on_step}
use Rattle.protocol.specs.Path.{failure_number}
use Rattle.protocol.specs.Answer.{in_range, Outcome, saved, taken, read_only, out_of_range, off_step, outcome, write_number, cells_after, write_reply, on_write}
use Rattle.protocol.specs.Sheet.{is_setting, may_hold, in_ranges}
use Rattle.protocol.proofs.TestLaws.{and_left, and_right, and_both, every_at, every-same}
use Rattle.protocol.proofs.StepLaws.{step-one}
use Rattle.protocol.proofs.OutcomeLaws.{saved_exact, taken_exact, off_step_exact}
use Rattle.protocol.proofs.AnswerLaws.{same_answers}
use Rattle.protocol.proofs.LoadLaws.{ranges_hold}
use Rattle.tree.specs.Seen.{seen}
use Rattle.cells.specs.Cells.{cells_form, cells_in}
use Rattle.cells.specs.Lent.{is_lent}
use Rattle.cells.proofs.CellLaws.{lent_form}
use Rattle.answer.specs.Serve.{Call, Open, Service, in_form, serving, Serves}
use Rattle.answer.proofs.ServeLaws.{answer_to, serve_good}
use Rattle.demands.specs.Serving.{tree_in, WritesTo}
use Rattle.demands.specs.Sheets.{ReadsSheet}
use Rattle.demands.specs.StepSize.{target, Allowed, StepServed, kind_sound01, property_sound01, sound01, outcome01, is_by_one, AsBefore, StepsKeep}
use Rattle.demands.proofs.Serving.{written_on, done_answered, done-written}
use Rattle.demands.proofs.Sheets.{sheets_keep}

-- What is saved in a setting is in range and on its step.
saved_allowed : (p : Property) (v : ℕ) → is_setting p ≡ true → (o : Outcome) → outcome p v ≡ o → write_number o ≡ done → Allowed p v
unfolding write_number
saved_allowed p v s saved e n =
    let both = and_right (can_read p) _ (and_right (can_write p) _ ((saved_exact p v).0 e)) in
    record { range_fits = and_left (in_range p v) _ both; step_fits = and_right (in_range p v) _ both }
saved_allowed p v s taken e n =
    let unread : not (can_read p) ≡ true = and_right (can_write p) _ ((taken_exact p v).0 e) in
    absurd (false≢true (sym (ap not (and_left (can_read p) _ s)) ∙ unread))
saved_allowed p v s read_only e n = absurd (omega (arith, n))
saved_allowed p v s out_of_range e n = absurd (omega (arith, n))
saved_allowed p v s off_step e n = absurd (omega (arith, n))

module _ (k : Call) {out cells' out' : List ℕ} {n size action missing : ℕ} (h : Serves (serving k) out n size action missing cells' out') where
  abbrev cs : List Cell
  cs = cells_in k.cells

  abbrev Given : Service → Type 0
  Given what = Serves what out n size action missing cells' out'

  -- Off its step.
  module _ (o : Open k) (good : k.string.number ≡ done) (on : k.host ≡ true) (r : Request) (place : ℕ) (w : WritesTo k r place)
      (s : is_setting (target k place) ≡ true) (within : in_range (target k place) r.value ≡ true) (off : on_step (target k place) r.value ≡ false)
    where
      gives : Given (in_form k.form (answer_to k))
      gives = subst Given (serve_good k o good) h

      is : answer_to k ≡ on_write cs place r off_step
      is =
          written_on k on r place w
          ∙ ap (on_write cs place r)
          ((off_step_exact (target k place) r.value).1
          (and_both (and_right (can_read (target k place)) _ s)
          (and_both (and_left (can_read (target k place)) _ s) (and_both within (ap not off)))))

      refused : (n ≡ not_saved) × ((cells' ≡ k.cells) × (out' ≡ over (k.form (write_reply off_step r)) out))
      unfolding on_write write_number cells_after
      refused = (
        gives.number ∙ ap (λ a. a.number) is,
        (
          gives.cells ∙ ap (λ a. cells_form a.cells) is ∙ sym (lent_form k.tree k.cells o.lent),
          gives.bytes ∙ ap (λ a. over (k.form a.reply) out) is,
        ),
      )

  -- Answered with 0.
  allowed : n ≡ done → (r : Request) (place : ℕ) → WritesTo k r place → is_setting (target k place) ≡ true → Allowed (target k place) r.value
  unfolding on_write
  allowed d r place w s =
      saved_allowed (target k place) r.value s (outcome (target k place) r.value) refl
      (sym (done_answered k h d ∙ ap (λ a. a.number) (done-written k h d r place w)) ∙ d)

  step-served : StepServed k out n cells' out'
  step-served = record { off_step_case = refused; accepted = allowed }

-- A sheet that was read: each setting holds a word of cells that are in range.
held : (t : Tree) (cs : List Cell) → in_ranges t cs ≡ true → (k : ℕ) → is_setting (property_in t k) ≡ true → may_hold (property_in t k) (cell_in cs k).word ≡ true
held t cs h k s = go (may_hold (property_in t k) (cell_in cs k).word) refl
  where
    go : (b : Bool) → may_hold (property_in t k) (cell_in cs k).word ≡ b → b ≡ true
    go true e = refl
    go false e = absurd (false≢true (sym (ranges_hold t cs (record { place = k; setting = s; word = e })) ∙ h))

holds_allowed : (p : Property) (v : ℕ) → may_hold p v ≡ true → Allowed p v
unfolding may_hold
holds_allowed p v h = record { range_fits = and_left (in_range p v) _ h; step_fits = and_right (in_range p v) _ h }

stored_allowed : (tree cells bs : List ℕ) {cells' : List ℕ} → Bytes cells → is_lent tree cells ≡ true → ReadsSheet tree cells bs done cells'
    → (k : ℕ) → is_setting (property_in (seen tree) k) ≡ true → Allowed (property_in (seen tree) k) (cell_in (cells_in cells') k).word
stored_allowed tree cells bs all lent u k s =
    let read = sheets_keep.reading tree cells bs all lent u in
    let w = read.only_written refl in
    holds_allowed (property_in (seen tree) k) _
    (ap (λ c. may_hold (property_in (seen tree) k) c.word) ((read.stores refl w).settings k s) ∙ held (seen tree) w.cells w.range_fits k s)

-- With step 1 the rules are those of before: property by property,
module _ (p : Property) (one : is_by_one p ≡ true) where
  code_0 : p.kind ≡ standard → step_code p ≡ 0
  unfolding is_by_one
  code_0 e = eqb-true (step_code p) 0 (let h = one in rw e at h)

  kind_before : kind_sound p ≡ kind_sound01 p
  unfolding kind_sound kind_sound01 standard_sound
  kind_before = go (eqb p.kind standard) refl
    where
      go : (b : Bool) → eqb p.kind standard ≡ b
          → cond b (eqb (length p.options) 1 && (at_most (is_signed p) p.min p.max && leb (step_code p) last_step_code)) (eqb p.kind enumeration && enumeration_sound p)
          ≡ cond b (eqb (length p.options) 1 && at_most (is_signed p) p.min p.max) (eqb p.kind enumeration && enumeration_sound p)
      go true e = rw (code_0 (eqb-true p.kind standard e)) (ap (λ b. eqb (length p.options) 1 && b) (and-true (at_most (is_signed p) p.min p.max)))
      go false e = refl

  property_before : (nodes : ℕ) → property_sound nodes p ≡ property_sound01 nodes p
  unfolding property_sound property_sound01
  property_before nodes = rw kind_before refl

  outcome_before : (v : ℕ) → outcome p v ≡ outcome01 p v
  unfolding outcome outcome01
  outcome_before v = rw (step-one p v code_0) refl

  holds_before : (v : ℕ) → may_hold p v ≡ in_range p v
  unfolding may_hold
  holds_before v = rw (step-one p v code_0) (and-true (in_range p v))

-- and so for a tree.
module _ (t : Tree) (h : every is_by_one t.properties ≡ true) where
  by_one : (k : ℕ) → is_by_one (property_in t k) ≡ true
  unfolding is_by_one
  by_one k = every_at is_by_one t.properties _ h refl k

  sound_before : sound t ≡ sound01 t
  unfolding sound properties_sound sound01
  sound_before =
      ap (λ b. nodes_sound t.nodes && (leb (length t.properties) max_properties && b))
      (every-same is_by_one (property_sound (length t.nodes)) (property_sound01 (length t.nodes))
      (λ p one. property_before p one (length t.nodes))
      t.properties
      h)

  as_before : AsBefore t
  as_before =
      record {
        rules = sound_before;
        answers = λ cs host bs. same_answers outcome outcome01 t (λ place v. outcome_before (property_in t place) (by_one place) v) failure_number cs host bs;
        settings = λ k v. holds_before (property_in t k) (by_one k) v;
      }

pub steps-keep : StepsKeep
steps-keep =
    record {
      served = step-served;
      loaded = stored_allowed;
      step_1 = as_before;
      step_1_served = λ k one o good.
          serve_good k o good ∙ ap (in_form k.form) ((as_before (tree_in k) one).answers (cells_in k.cells) k.host k.string.payload);
    }
