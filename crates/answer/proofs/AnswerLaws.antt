-- Answers: what is lent, refusals, readings and writes, and the answer of the definition case by case.
-- Assumes nothing.
use Prim.Native.Nat.{ℕ, ◌<◌, ◌≤◌}
use native.Mathlib.Omega.{arith}
use mathlib.Core.Path.{◌≡◌, refl, sym, ap, subst, ◌∙◌}
use mathlib.Core.Bool.{Bool, true, false, ◌&&◌}
use mathlib.Core.List.{List, [], ◌∷◌}
use mathlib.Core.Option.{none, some}
use borrow.Author.Tests.{eq-eqb, ne_eqb, lt-ltb}
use lib.ListN.{length, set, length-set}
use lib.Dec.{eqb, ltb}
use Rattle.protocol.specs.Numbers.{word_end, done, disabled, no_reading, no_such_node, no_such_property, ACK, op_detect, op_node, op_record, op_read}
use Rattle.protocol.specs.Buffer.{Put}
use Rattle.protocol.specs.Request.{Request, Asked, Allowed}
use Rattle.protocol.specs.Tree.{Property, Tree, Cell, property_of, node_at, property_in, cell_in, sound, readable}
use Rattle.protocol.specs.Path.{missing_length, failure_number, failure_length}
use Rattle.protocol.specs.Answer.{Outcome, outcome, write_number, stored, cells_after, action_of, node_reply, record_reply, read_reply, write_reply, Answer, plain, refuse, refuse_at, refusal_code, on_read, on_write, on_property, if_property, if_node, perform, if_asked}
use Rattle.protocol.proofs.TestLaws.{and_left, and_right, and_both, every_set}
use Rattle.protocol.proofs.RequestLaws.{fitting, path_most}
use Rattle.protocol.proofs.AnswerLaws.{Texts, texts_short, node_size_lem, record-size}
use Rattle.tree.specs.Form.{tree_form}
use Rattle.tree.specs.Seen.{seen, same}
use Rattle.soundness.specs.Sound.{is_tree}
use Rattle.cells.specs.Cells.{has_cells, cells_form, with_word}
use Rattle.protocol.specs.Bytes.{Bytes}
use Rattle.cells.specs.Lent.{is_lent}
use Rattle.soundness.proofs.FormLaws.{sound_parts}
use Rattle.cells.proofs.CellLaws.{in_width, cells_form_bytes, cells_in_form, has_form_lem, cells_fit, lent_form, word-stored}
use Rattle.answer.specs.Serve.{action_number}
use Rattle.std.specs.Prelude.{Result, Ok, Err, None}
use Rattle.cells.specs.Cells.{cells_in}
use Rattle.answer.specs.declared.Failure.{Failure}
use Rattle.answer.specs.declared.Failure.TheVariants.{NoNode, Refused}
use Rattle.answer.specs.declared.Reply.{Reply}
use Rattle.answer.specs.Reply.{failure_told, length_missing, outcome_number, outcome_action, outcome_missing}
use Rattle.answer.specs.Steps.{answer_asked, Refuses, Answers, Replies, Fails, Attempts}

-- Lent bytes that passed the check: a place fits a byte, and the replies that hold texts are short.
module _ (tree cells : List ℕ) (lent : is_lent tree cells ≡ true) where
  pub lent_sound : sound (seen tree) ≡ true
  unfolding is_lent is_tree
  lent_sound = and_right (same tree (tree_form (seen tree))) _ (and_left (is_tree tree) _ lent)

  pub place-fits : (place : ℕ) → place < length (seen tree).properties → place < 256
  place-fits place h = omega (arith, h, (sound_parts (seen tree) lent_sound).properties)

  short : Texts (seen tree)
  short = texts_short (seen tree) lent_sound

  pub node_short : (r : Request) → Allowed r → (node : ℕ) → length (node_reply (seen tree) node r) ≤ 256
  node_short r h node = (node_size_lem r (path_most r (fitting r h).rest) (seen tree) short node).most

  pub record-short : (r : Request) → Allowed r → (place : ℕ) → length (record_reply (property_in (seen tree) place) r) ≤ 256
  record-short r h place = (record-size r (path_most r (fitting r h).rest) (seen tree) short place).most

-- A failure that is still to be answered, its reply, and the replies that leave the cells as they are.
pub fails : {cs : List Cell} {a : Answer} (f : Failure) (cells out : List ℕ) → cs ≡ cells_in cells → a ≡ refuse_at cs (failure_told f) (length_missing f)
    → Fails a f cells out cells out
fails f cells out e h = record { is = h ∙ ap (λ c. refuse_at c (failure_told f) (length_missing f)) e; kept = refl; bytes = refl }

pub refuses : {f : Failure} {code size : ℕ} {out out' : List ℕ} → code ≡ refusal_code (failure_told f) → Put 0 (code ∷ []) out size out'
    → Refuses f out (record { len = size; outcome = Err f }) out'
refuses {size = size} {out = out} {out' = out'} e p = record { is = refl; reply = subst (λ b. Put 0 (b ∷ []) out size out') e p }

module _ {cs : List Cell} {cells : List ℕ} (cells_are : cells ≡ cells_form cs) where
  pub refused : (f : Failure) {r : Reply} {out out' : List ℕ} → Refuses f out r out' → Replies (refuse_at cs (failure_told f) (length_missing f)) out r cells out'
  refused (NoNode len) h =
      record { number = ap outcome_number h.is; reply = h.reply; acts = ap outcome_action h.is; tells = ap outcome_missing h.is; cells = cells_are }
  refused (Refused e) h =
      record { number = ap outcome_number h.is; reply = h.reply; acts = ap outcome_action h.is; tells = ap outcome_missing h.is; cells = cells_are }

  pub replied : {size : ℕ} {bs out out' : List ℕ} → Put 0 bs out size out' → Answers (plain cs done bs) out done size 255 0 cells out'
  replied p = record { number = refl; reply = p; acts = refl; tells = refl; cells = cells_are }

-- One answer is another.
pub answers_as : {a b : Answer} {n size action missing : ℕ} {out cells out' : List ℕ} → b ≡ a
    → Answers a out n size action missing cells out' → Answers b out n size action missing cells out'
answers_as {n = n} {size = size} {action = action} {missing = missing} {out = out} {cells = cells} {out' = out'} e h =
    subst (λ x. Answers x out n size action missing cells out') (sym e) h

pub attempts_as : {a b : Answer} (cells out : List ℕ) (r : Result Reply Failure) (cells' out' : List ℕ) → b ≡ a
    → Attempts a cells out r cells' out' → Attempts b cells out r cells' out'
attempts_as cells out r cells' out' e h = subst (λ x. Attempts x cells out r cells' out') (sym e) h

-- A reply, by its parts.
pub replies_as : {a : Answer} {r : Reply} {size : ℕ} {out cells out' : List ℕ} → r ≡ record { len = size; outcome = Ok None }
    → Answers a out done size 255 0 cells out' → Replies a out r cells out'
replies_as {a} {r} {size} {out} {cells} {out'} e h = subst (λ x. Replies a out x cells out') (sym e) h

-- A write, by what it did.
pub writes : (cs : List Cell) (place : ℕ) (r : Request) {o told did : Outcome} {n len size action missing : ℕ} {out cells out' : List ℕ}
    → told ≡ o → told ≡ did → Put 0 (write_reply told r) out len out' → n ≡ write_number did → size ≡ len
    → action ≡ action_number (action_of did place) → missing ≡ 0 → cells ≡ cells_form (cells_after did cs place r.value)
    → Answers (on_write cs place r o) out n size action missing cells out'
unfolding on_write
writes cs place r {o} {did = did} e f p number len action missing cells =
    let is : o ≡ did = sym e ∙ f in
    rw is (record { number = number; reply = rw (len, ← f) p; acts = action; tells = missing; cells = cells })

-- The cells once a value is saved.
pub saved_cells : (cs : List Cell) (place v : ℕ) {cells cells' : List ℕ} → cells ≡ cells_form cs → cells' ≡ with_word place v cells
    → cells' ≡ cells_form (set cs place (stored (cell_in cs place) v))
saved_cells cs place v e f = f ∙ ap (with_word place v) e ∙ word-stored cs place v

-- Cells that fit a tree still do once a word is stored.
pub lent_stored : (tree cells : List ℕ) → is_lent tree cells ≡ true → (place w : ℕ) → w < word_end → is_lent tree (with_word place w cells) ≡ true
unfolding is_lent
lent_stored tree cells lent place w fits =
    let cs = cells_in cells in
    let cs' : List Cell = set cs place (stored (cell_in cs place) w) in
    let form : cells ≡ cells_form cs = lent_form tree cells lent in
    let all : Bytes cells = subst Bytes (sym form) (cells_form_bytes cs) in
    let is : with_word place w cells ≡ cells_form cs' = saved_cells cs place w form refl in
    let wide : in_width cs' ≡ true = every_set (λ c. ltb c.word word_end) cs place (stored (cell_in cs place) w) (cells_fit cells all) (lt-ltb w word_end fits) in
    let rest : (has_cells cells && eqb (length cs) (length (seen tree).properties)) ≡ true = and_right (is_tree tree) _ lent in
    let same : length (cells_in (cells_form cs')) ≡ length cs = ap length (cells_in_form cs' wide) ∙ length-set cs place (stored (cell_in cs place) w) in
    and_both (and_left (is_tree tree) _ lent)
    (rw is
    (and_both (has_form_lem cs' wide)
    (ap (λ n. eqb n (length (seen tree).properties)) same ∙ and_right (has_cells cells) _ rest)))

-- The definition, case by case: a reading;
module _ (cs : List Cell) (p : Property) (place : ℕ) (r : Request) where
  pub read_refused : readable p (cell_in cs place) ≡ false → on_read cs p place r ≡ refuse cs no_reading
  unfolding on_read
  read_refused h = rw h

  pub read_replied : readable p (cell_in cs place) ≡ true → on_read cs p place r ≡ plain cs done (read_reply (cell_in cs place) r)
  unfolding on_read
  read_replied h = rw h

module _ (t : Tree) (cs : List Cell) (r : Request) where
  -- ops 2 to 5, once the property is found;
  pub is_record : (place : ℕ) → r.op ≡ op_record → on_property outcome t cs r place ≡ plain cs done (record_reply (property_in t place) r)
  unfolding on_property
  is_record place h = rw (eq-eqb r.op op_record h)

  pub is_reading : (place : ℕ) → r.op ≡ op_read → on_property outcome t cs r place ≡ on_read cs (property_in t place) place r
  unfolding on_property
  is_reading place h = rw (ne_eqb r.op op_record (λ e. omega (arith, e, h)), eq-eqb r.op op_read h)

  pub is_write : (place : ℕ) → op_read < r.op → on_property outcome t cs r place ≡ on_write cs place r (outcome (property_in t place) r.value)
  unfolding on_property
  is_write place h =
      rw (ne_eqb r.op op_record (λ e. omega (arith, e, h)), ne_eqb r.op op_read (λ e. omega (arith, e, h)))

  -- ops 1 to 5, once the node is found;
  pub is_node : (node : ℕ) → r.op ≡ op_node → if_node outcome failure_number t cs r (some node) ≡ plain cs done (node_reply t node r)
  unfolding if_node
  is_node node h = rw (eq-eqb r.op op_node h)

  pub no_property_case : (node : ℕ) → (r.op ≡ op_node → ⊥) → property_of t node (record { 0 = r.index }) ≡ none
      → if_node outcome failure_number t cs r (some node) ≡ refuse cs no_such_property
  unfolding if_node if_property failure_number failure_length
  no_property_case node h e = rw (ne_eqb r.op op_node h, e)

  pub at_property_lem : (node : ℕ) {place : ℕ} → (r.op ≡ op_node → ⊥) → property_of t node (record { 0 = r.index }) ≡ some place
      → if_node outcome failure_number t cs r (some node) ≡ on_property outcome t cs r place
  unfolding if_node if_property
  at_property_lem node h e = rw (ne_eqb r.op op_node h, e)

  -- a request;
  pub is_detect : r.op ≡ op_detect → perform outcome failure_number t cs r ≡ plain cs done (ACK ∷ [])
  unfolding perform
  is_detect h = rw (eq-eqb r.op op_detect h)

  pub no_node_case : {len : ℕ} → (r.op ≡ op_detect → ⊥) → node_at t r.path ≡ none → missing_length t r.path ≡ len
      → perform outcome failure_number t cs r ≡ refuse_at cs no_such_node len
  unfolding perform if_node failure_number failure_length
  no_node_case h e f = rw (ne_eqb r.op op_detect h, e, f)

  pub at_node_lem : {node : ℕ} → (r.op ≡ op_detect → ⊥) → node_at t r.path ≡ some node → perform outcome failure_number t cs r ≡ if_node outcome failure_number t cs r (some node)
  unfolding perform
  at_node_lem h e = rw (ne_eqb r.op op_detect h, e)

-- what was read.
module _ (t : Tree) (cs : List Cell) {host : Bool} (a : Asked) where
  pub is_disabled : host ≡ false → answer_asked t cs host a ≡ refuse cs disabled
  unfolding answer_asked
  is_disabled h = rw h

  pub not_asked : host ≡ true → (a.number ≡ done → ⊥) → answer_asked t cs host a ≡ refuse cs a.number
  unfolding answer_asked if_asked
  not_asked h e = rw (h, ne_eqb a.number done e)

  pub is_asked : host ≡ true → a.number ≡ done → answer_asked t cs host a ≡ perform outcome failure_number t cs a.request
  unfolding answer_asked if_asked
  is_asked h e = rw (h, eq-eqb a.number done e)
