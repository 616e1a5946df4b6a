-- Answers: how long a reply is, what an open probe is answered, and which cells a request changes.
-- Assumes nothing.
use Prim.Native.Nat.{ℕ, zero, suc, ◌+◌, ◌<◌, ◌≤◌}
use native.Mathlib.Omega.{arith}
use mathlib.Core.Path.{◌≡◌, refl, sym, ap, subst, ◌∙◌}
use mathlib.Core.Bool.{Bool, true, false, cond, ◌&&◌}
use mathlib.Core.List.{List, [], ◌∷◌, ◌++◌}
use mathlib.Core.Option.{Option, none, some, none-ne-some, some-injective}
use borrow.Author.Tests.{eqb-true, eqb-false, leb-true, lt-ltb, ne_eqb}
use lib.ListN.{length, get_or, drop, get_elem?, set, length-append, length-set}
use lib.Seq.{get_or-set_same, get_or-set_other}
use lib.Dec.{eqb, ltb, leb}
use Rattle.protocol.specs.Numbers.{done, unknown_command, disabled, bad_parameter, no_reading, no_such_node, no_such_property, PDI, BUSY, ACK, NAK, op_detect, op_node, op_record, op_read, op_write, op_write_extended, max_depth, max_name, max_texts, max_nodes, max_properties, word_end}
use Rattle.protocol.specs.Bytes.{every, half, word, text, texts}
use Rattle.protocol.specs.Frame.{Sized}
use Rattle.protocol.specs.Request.{Request, Asked, asks_index, asks_value, fits, asked_if, declined, before_zero, read_indexed, read_valued, read_shape, read_request}
use Rattle.protocol.specs.Tree.{Node, Property, Tree, Cell, is_live, is_text, is_name, kind_sound, live_sound, widths_sound, places_from, numbered, properties_of, property_of, node_at, node_in, property_in, cell_in, cells_sound, depths_sound, parents_sound, options_sound, property_sound, nodes_sound, properties_sound, sound, readable}
use Rattle.protocol.specs.Path.{missing_length, Failure, no_node, no_property, failure_number}
use Rattle.protocol.specs.Answer.{Finds, ReadAs, Writes, Saves, Outcome, saved, taken, read_only, out_of_range, off_step, outcome, reason, write_number, stored, cells_after, echo, echo_indexed, node_reply, record_reply, read_reply, write_reply, Answer, plain, refuse, failed, refusal_code, on_read, on_write, on_property, if_property, if_node, perform, if_asked, answer_by, answer}
use Rattle.protocol.proofs.TestLaws.{and_left, and_right, and_both, if_both, if_case, every_at, every_set, every_weaker}
use Rattle.protocol.proofs.RequestLaws.{path_most, value-fits}
use Rattle.protocol.proofs.RuleLaws.{not_readable}

-- Data that is read: with 0 the request has one of the ops and fits the table, and any other number is row 10 or 11.
pub record Fits (a : Asked) : Type 0 where
  pub op : a.number ≡ done → a.request.op ≤ op_write_extended
  pub fit : a.number ≡ done → fits a.request ≡ true
  pub late : (a.number ≡ done → ⊥) → (disabled < a.number) × (a.number ≤ bad_parameter)

declined-fits : (n : ℕ) → disabled < n → n ≤ bad_parameter → Fits (declined n)
declined-fits n h k = record { op = λ e. absurd (omega (arith, e)); fit = λ e. absurd (omega (arith, e)); late = λ u. (h, k) }

unknown_fits : Fits (declined unknown_command)
unknown_fits = declined-fits unknown_command (omega arith) (omega arith)

misfit_fits : Fits (declined bad_parameter)
misfit_fits = declined-fits bad_parameter (omega arith) (omega arith)

asked_if-fits : (r : Request) → r.op ≤ op_write_extended → Fits (asked_if r)
unfolding asked_if
asked_if-fits r known =
    if_case Fits (fits r) (λ e. record { op = λ h. known; fit = λ h. e; late = λ u. absurd (u refl) }) (λ e. misfit_fits)

module _ (op : ℕ) (known : op ≤ op_write_extended) where
  read_indexed-fits : (v : ℕ) (bs : List ℕ) → Fits (read_indexed op v bs)
  unfolding read_indexed
  read_indexed-fits v bs = asked_if-fits _ known

  read_valued-fits : (bs : List ℕ) → Fits (read_valued op bs)
  unfolding read_valued
  read_valued-fits bs =
      if_both Fits (eqb (length (drop (suc (before_zero bs)) bs)) 4) (read_indexed-fits _ _) misfit_fits

  read_shape-fits : (bs : List ℕ) → Fits (read_shape op bs)
  unfolding read_shape
  read_shape-fits bs =
      if_both Fits (asks_value op)
      (read_valued-fits bs)
      (if_both Fits (asks_index op) (read_indexed-fits 0 bs) (asked_if-fits _ known))

pub read_request-fits : (bs : List ℕ) → Fits (read_request bs)
unfolding read_request
read_request-fits [] = misfit_fits
read_request-fits (c ∷ []) = if_both Fits (eqb c PDI) misfit_fits unknown_fits
read_request-fits (c ∷ op ∷ bs) =
    if_case Fits (eqb c PDI && leb op op_write_extended)
    (λ e. read_shape-fits op (leb-true op op_write_extended (and_right (eqb c PDI) _ e)) bs)
    (λ e. unknown_fits)

-- The lengths of a reply's parts.
length-text : (s : List ℕ) → length (text s) ≡ length s + 1
unfolding text
length-text s = length-append s (0 ∷ [])

name_short : (s : List ℕ) → is_name s ≡ true → length s ≤ max_name
unfolding is_name
name_short s h = leb-true (length s) max_name (and_left (leb (length s) max_name) (is_text s) h)

options_short : (ss : List (List ℕ)) → options_sound ss ≡ true → length (texts ss) ≤ max_texts
unfolding options_sound
options_short ss h = leb-true (length (texts ss)) max_texts (and_right (every is_text ss) (leb (length (texts ss)) max_texts) h)

-- The texts of a sound tree are short, wherever they stand.
abbrev short_texts : Property → Bool
short_texts p = is_name p.label && options_sound p.options

property_texts : (nodes : ℕ) (p : Property) → property_sound nodes p ≡ true → short_texts p ≡ true
unfolding property_sound
property_texts nodes p h =
    and_right (kind_sound p) _
    (and_right (live_sound p) _ (and_right (widths_sound p) _ (and_right (ltb p.node nodes) _ h)))

nodes_named : (ns : List Node) → nodes_sound ns ≡ true → every (λ n. is_name n.name) ns ≡ true
unfolding nodes_sound
nodes_named ns h =
    and_right (depths_sound ns) _ (and_right (parents_sound ns) _ (and_right (leb (length ns) max_nodes) _ h))

properties_short : (t : Tree) → properties_sound t ≡ true → every short_texts t.properties ≡ true
unfolding properties_sound
properties_short t h =
    every_weaker (property_sound (length t.nodes)) short_texts (property_texts (length t.nodes)) t.properties
    (and_right (leb (length t.properties) max_properties) _ h)

pub record Texts (t : Tree) : Type 0 where
  pub names : (place : ℕ) → length (node_in t place).name ≤ max_name
  pub labels : (place : ℕ) → length (property_in t place).label ≤ max_name
  pub options : (place : ℕ) → length (texts (property_in t place).options) ≤ max_texts

pub texts_short : (t : Tree) → sound t ≡ true → Texts t
unfolding sound is_name options_sound every texts
texts_short t h =
    let names : every (λ n. is_name n.name) t.nodes ≡ true =
    nodes_named t.nodes (and_left (nodes_sound t.nodes) (properties_sound t) h) in
    let short : every short_texts t.properties ≡ true =
    properties_short t (and_right (nodes_sound t.nodes) (properties_sound t) h) in
    let at : (place : ℕ) → short_texts (property_in t place) ≡ true = every_at short_texts t.properties _ short refl in
    record {
      names = λ place. name_short (node_in t place).name (every_at (λ n. is_name n.name) t.nodes _ names refl place);
      labels = λ place. name_short (property_in t place).label (and_left _ (options_sound (property_in t place).options) (at place));
      options = λ place. options_short (property_in t place).options (and_right (is_name (property_in t place).label) _ (at place));
    }

reason_short : (o : Outcome) → length (reason o) ≤ 9
unfolding reason
reason_short saved = omega arith
reason_short taken = omega arith
reason_short read_only = omega arith
reason_short out_of_range = omega arith
reason_short off_step = omega arith

ending_short : (t : Bool) (o : Outcome) → length (cond t [] (text (reason o))) ≤ 10
ending_short true o = omega arith
ending_short false o = omega (arith, length-text (reason o), reason_short o)

-- Replies of 1 to 256 bytes: what stands before a reply's own bytes takes at most 19.
module _ (r : Request) (path : length r.path ≤ max_depth) where
  echo_size : (more : List ℕ) → length more ≤ 200 → Sized (echo r ++ more)
  echo_size more h =
      record {
        least = omega (arith, length-append (echo r) more);
        most = omega (arith, length-append (echo r) more);
      }

  indexed_size : (more : List ℕ) → length more ≤ 200 → Sized (echo_indexed r ++ more)
  indexed_size more h =
      record {
        least = omega (arith, length-append (echo_indexed r) more, length-append (echo r) (r.index ∷ []));
        most = omega (arith, length-append (echo_indexed r) more, length-append (echo r) (r.index ∷ []));
      }

  pub node_size_lem : (t : Tree) → Texts t → (place : ℕ) → Sized (node_reply t place r)
  unfolding node_reply
  node_size_lem t short place = echo_size _ (omega (arith, short.names place, length-text (node_in t place).name))

  pub record-size : (t : Tree) → Texts t → (place : ℕ) → Sized (record_reply (property_in t place) r)
  unfolding record_reply word half
  record-size t short place =
      let p : Property = property_in t place in
      let size = length-append (text p.label) (texts p.options) in
      indexed_size _ (omega (arith, short.labels place, short.options place, length-text p.label, size))

  pub read_size : (c : Cell) → Sized (read_reply c r)
  unfolding read_reply word
  read_size c = indexed_size _ (omega arith)

  pub write_size : (o : Outcome) → Sized (write_reply o r)
  unfolding write_reply word
  write_size o = indexed_size _ (omega (arith, ending_short (eqb r.op op_write) o))

-- The places that a test picks out of a list lie within it.
picked : {A : Type 0} (f : A → Bool) (xs : List A) (k n place : ℕ) → get_elem? (places_from k f xs) n ≡ some place
    → place < k + length xs
unfolding places_from
picked f [] k n place h = absurd (none-ne-some place h)
picked f (x ∷ xs) k n place h = go (f x) n (λ m. picked f xs (suc k) m place) h
  where
    go : (t : Bool) (n : ℕ) → ((m : ℕ) → get_elem? (places_from (suc k) f xs) m ≡ some place → place < suc k + length xs)
        → get_elem? (cond t (k ∷ []) [] ++ places_from (suc k) f xs) n ≡ some place → place < k + suc (length xs)
    go true zero ih h = omega (arith, some-injective k place h)
    go true (suc n) ih h = omega (arith, ih n h)
    go false n ih h = omega (arith, ih n h)

found_below : (xs : List ℕ) (index place bound : ℕ) → ((n : ℕ) → get_elem? xs n ≡ some place → place < bound)
    → numbered xs index ≡ some place → place < bound
unfolding numbered
found_below xs zero place bound h e = absurd (none-ne-some place e)
found_below xs (suc n) place bound h e = h n e

-- A property of a node is in the tree, and so is the property that a request names.
pub property_below : (t : Tree) (node index place : ℕ) → property_of t node (record { 0 = index }) ≡ some place
    → place < length t.properties
unfolding properties_of
property_below t node index place h =
    found_below (properties_of t node) index place (length t.properties)
    (λ n e. omega (arith, picked (λ p. eqb p.node node) t.properties 0 n place e))
    h

pub finds_below : (t : Tree) (r : Request) (place : ℕ) → Finds t r place → place < length t.properties
finds_below t r place f = property_below t f.node r.index place f.at_property

pub read_fits : (bs : List ℕ) (r : Request) → ReadAs bs r → fits r ≡ true
read_fits bs r asks = ap (λ a. fits a.request) (sym asks) ∙ (read_request-fits bs).fit (ap (λ a. a.number) asks)

-- How data is answered: a code of rows 9 to 12, 11 for its shape alone, a lookup that fails, a reply with 0, or what a write to a property comes to. Only the
-- last may change a cell.
pub data Answered (t : Tree) (cs : List Cell) (bs : List ℕ) : Answer → Type 0 where
  refused : (n : ℕ) → disabled ≤ n → n ≤ no_reading → (n ≡ bad_parameter → (read_request bs).number ≡ bad_parameter)
      → Answered t cs bs (refuse cs n)
  no_node_case : (r : Request) → ReadAs bs r → op_detect < r.op → node_at t r.path ≡ none
      → Answered t cs bs (failed failure_number cs (no_node (missing_length t r.path)))
  no_property_case : (r : Request) (node : ℕ) → ReadAs bs r → op_node < r.op → node_at t r.path ≡ some node
      → property_of t node (record { 0 = r.index }) ≡ none → Answered t cs bs (failed failure_number cs no_property)
  acknowledged : Answered t cs bs (plain cs done (ACK ∷ []))
  node_described : (r : Request) (node : ℕ) → ReadAs bs r → Answered t cs bs (plain cs done (node_reply t node r))
  record-described : (r : Request) (place : ℕ) → ReadAs bs r → Answered t cs bs (plain cs done (record_reply (property_in t place) r))
  word_read : (r : Request) (place : ℕ) → ReadAs bs r → Answered t cs bs (plain cs done (read_reply (cell_in cs place) r))
  written : (r : Request) (place : ℕ) → Writes t bs r place
      → Answered t cs bs (on_write cs place r (outcome (property_in t place) r.value))

module _ (t : Tree) (cs : List Cell) (bs : List ℕ) where
  module _ (r : Request) (asks : ReadAs bs r) where
    property_answered : (place : ℕ) → op_node < r.op → Finds t r place → Answered t cs bs (on_property outcome t cs r place)
    unfolding on_property on_read
    property_answered place h f =
        if_case (Answered t cs bs) (eqb r.op op_record) (λ e. record-described r place asks)
        (λ e. if_case (Answered t cs bs) (eqb r.op op_read)
        (λ q.
        if_both (Answered t cs bs) (readable (property_in t place) (cell_in cs place))
        (word_read r place asks)
        (refused no_reading (omega arith) (omega arith) (λ z. absurd (omega (arith, z)))))
        (λ q.
        let above : op_read < r.op = omega (arith, eqb-false r.op op_record e, eqb-false r.op op_read q) in
        written r place (record { asks = asks; writes = above; finds = f })))

    if_property_answered : (node : ℕ) → node_at t r.path ≡ some node → op_node < r.op → (o : Option ℕ)
        → property_of t node (record { 0 = r.index }) ≡ o → Answered t cs bs (if_property outcome failure_number t cs r o)
    unfolding if_property
    if_property_answered node n h none e = no_property_case r node asks h n e
    if_property_answered node n h (some place) e = property_answered place h (record { node = node; at_node = n; at_property = e })

    if_node_answered : op_detect < r.op → (o : Option ℕ) → node_at t r.path ≡ o → Answered t cs bs (if_node outcome failure_number t cs r o)
    unfolding if_node
    if_node_answered h none e = no_node_case r asks h e
    if_node_answered h (some node) e =
        if_case (Answered t cs bs) (eqb r.op op_node) (λ q. node_described r node asks)
        (λ q.
        let above : op_node < r.op = omega (arith, eqb-false r.op op_node q) in
        if_property_answered node e above (property_of t node (record { 0 = r.index })) refl)

    perform_answered : Answered t cs bs (perform outcome failure_number t cs r)
    unfolding perform
    perform_answered =
        if_case (Answered t cs bs) (eqb r.op op_detect) (λ e. acknowledged)
        (λ e. if_node_answered (omega (arith, eqb-false r.op op_detect e)) (node_at t r.path) refl)

  -- Every answer is one of these.
  pub answered : (host : Bool) → Answered t cs bs (answer t cs host bs)
  unfolding answer_by if_asked
  answered false = refused disabled (omega arith) (omega arith) (λ z. absurd (omega (arith, z)))
  answered true =
      if_case (Answered t cs bs) (eqb (read_request bs).number done)
      (λ e.
      perform_answered (read_request bs).request
      (ap (λ n. record { number = n; request = (read_request bs).request }) (eqb-true (read_request bs).number done e)))
      (λ e.
      let row = (read_request-fits bs).late (eqb-false (read_request bs).number done e) in
      refused (read_request bs).number (omega (arith, row.0)) (omega (arith, row.1)) (λ z. z))

  -- Every reply has 1 to 256 bytes: to any data, with host functions on or off, whatever the cells hold.
  sized : Texts t → {a : Answer} → Answered t cs bs a → Sized a.reply
  unfolding on_write
  sized short (refused n h k s) = record { least = omega arith; most = omega arith }
  sized short (no_node_case r asks h e) = record { least = omega arith; most = omega arith }
  sized short (no_property_case r node asks h e f) = record { least = omega arith; most = omega arith }
  sized short acknowledged = record { least = omega arith; most = omega arith }
  sized short (node_described r node asks) = node_size_lem r (path_most r (read_fits bs r asks)) t short node
  sized short (record-described r place asks) = record-size r (path_most r (read_fits bs r asks)) t short place
  sized short (word_read r place asks) = read_size r (path_most r (read_fits bs r asks)) (cell_in cs place)
  sized short (written r place w) = write_size r (path_most r (read_fits bs r w.asks)) (outcome (property_in t place) r.value)

pub reply_sized : (t : Tree) → sound t ≡ true → (cs : List Cell) (host : Bool) (bs : List ℕ)
    → Sized (answer t cs host bs).reply
reply_sized t h cs host bs = sized t cs bs (texts_short t h) (answered t cs bs host)

-- No reply begins with 53h.
record Code (b : ℕ) : Type 0 where
  not_busy : b ≡ BUSY → ⊥

code_not_busy : (n : ℕ) → Code (refusal_code n)
unfolding refusal_code
code_not_busy n =
    if_both Code (eqb n disabled) (record { not_busy = λ e. omega (arith, e) })
    (if_both Code (eqb n unknown_command) (record { not_busy = λ e. omega (arith, e) })
    (if_both Code (eqb n no_reading) (record { not_busy = λ e. omega (arith, e) }) (record { not_busy = λ e. omega (arith, e) })))

pub never_busy : (t : Tree) (cs : List Cell) (host : Bool) (bs : List ℕ) → get_or (answer t cs host bs).reply 0 0 ≡ BUSY → ⊥
unfolding node_reply record_reply read_reply write_reply on_write failure_number
never_busy t cs host bs = go (answered t cs bs host)
  where
    go : {a : Answer} → Answered t cs bs a → get_or a.reply 0 0 ≡ BUSY → ⊥
    go (refused n h k s) = (code_not_busy n).not_busy
    go (no_node_case r asks h e) = (code_not_busy no_such_node).not_busy
    go (no_property_case r node asks h e f) = (code_not_busy no_such_property).not_busy
    go acknowledged = λ e. omega (arith, e)
    go (node_described r node asks) = λ e. omega (arith, e)
    go (record-described r place asks) = λ e. omega (arith, e)
    go (word_read r place asks) = λ e. omega (arith, e)
    go (written r place w) = λ e. omega (arith, e)

-- A request performed, where it names a property.
finds_performs : (t : Tree) (cs : List Cell) (r : Request) (place : ℕ) → Finds t r place → op_node < r.op
    → perform outcome failure_number t cs r ≡ on_property outcome t cs r place
unfolding perform if_node if_property
finds_performs t cs r place f h =
    let detect : eqb r.op op_detect ≡ false = ne_eqb r.op op_detect (λ e. omega (arith, e, h)) in
    let tree : eqb r.op op_node ≡ false = ne_eqb r.op op_node (λ e. omega (arith, e, h)) in
    rw (detect, f.at_node, tree, f.at_property)

answer_asked_lem : (t : Tree) (cs : List Cell) (bs : List ℕ) (r : Request) → ReadAs bs r → answer t cs true bs ≡ perform outcome failure_number t cs r
unfolding answer_by if_asked
answer_asked_lem t cs bs r h = ap (if_asked outcome failure_number t cs) h

-- Data that is not read as a request is refused with the number of its reading.
pub declined_answered : (t : Tree) (cs : List Cell) (bs : List ℕ) → ((read_request bs).number ≡ done → ⊥)
    → answer t cs true bs ≡ refuse cs (read_request bs).number
unfolding answer_by if_asked
declined_answered t cs bs h = rw (ne_eqb (read_request bs).number done h)

-- A path that no node has, and a node without the property.
module _ (t : Tree) (cs : List Cell) (bs : List ℕ) (r : Request) (asks : ReadAs bs r) where
  pub node_lost_answered : op_detect < r.op → node_at t r.path ≡ none
      → answer t cs true bs ≡ failed failure_number cs (no_node (missing_length t r.path))
  unfolding perform if_node
  node_lost_answered h e = answer_asked_lem t cs bs r asks ∙ rw (ne_eqb r.op op_detect (λ z. omega (arith, z, h)), e)

  pub property_lost_answered : {node : ℕ} → op_node < r.op → node_at t r.path ≡ some node
      → property_of t node (record { 0 = r.index }) ≡ none → answer t cs true bs ≡ failed failure_number cs no_property
  unfolding perform if_node if_property
  property_lost_answered h e f =
      answer_asked_lem t cs bs r asks
      ∙ rw (ne_eqb r.op op_detect (λ z. omega (arith, z, h)), e, ne_eqb r.op op_node (λ z. omega (arith, z, h)), f)

-- A live probe that is not ready is answered 58, whatever its word.
pub open_probe : (t : Tree) (cs : List Cell) (bs : List ℕ) (r : Request) (place : ℕ) → ReadAs bs r → r.op ≡ op_read → Finds t r place
    → is_live (property_in t place) ≡ true → (cell_in cs place).ready ≡ false
    → answer t cs true bs ≡ plain cs no_reading (NAK ∷ [])
unfolding on_property on_read refusal_code
open_probe t cs bs r place h op f live unready =
    answer_asked_lem t cs bs r h
    ∙ finds_performs t cs r place f (omega (arith, op))
    ∙ rw (op, not_readable (property_in t place) (cell_in cs place) live unready)

-- A write is answered by its outcome.
pub write_answered : (t : Tree) (cs : List Cell) (bs : List ℕ) (r : Request) (place : ℕ) → Writes t bs r place
    → answer t cs true bs ≡ on_write cs place r (outcome (property_in t place) r.value)
unfolding on_property
write_answered t cs bs r place w =
    let above : op_read < r.op = w.writes in
    answer_asked_lem t cs bs r w.asks
    ∙ finds_performs t cs r place w.finds (omega arith)
    ∙ rw (ne_eqb r.op op_record (λ e. omega (arith, e, above)), ne_eqb r.op op_read (λ e. omega (arith, e, above)))

-- The cells after any request: as they were, or with the one setting that was written.
pub data Changes (t : Tree) (cs : List Cell) (bs : List ℕ) (after : List Cell) : Type 0 where
  none_changed : after ≡ cs → Changes t cs bs after
  one_written : (place value : ℕ) → Saves t bs place value → after ≡ set cs place (stored (cell_in cs place) value)
      → Changes t cs bs after

-- No request alters anything but the setting that an accepted write names.
pub changes : (t : Tree) (cs : List Cell) (host : Bool) (bs : List ℕ) → Changes t cs bs (answer t cs host bs).cells
unfolding on_write cells_after
changes t cs host bs = go (answered t cs bs host)
  where
    write : (r : Request) (place : ℕ) → Writes t bs r place → (o : Outcome) → outcome (property_in t place) r.value ≡ o
        → Changes t cs bs (on_write cs place r o).cells
    write r place w saved e =
        one_written place r.value (record { request = r; writes = w; saves = e; sent = refl }) refl
    write r place w taken e = none_changed refl
    write r place w read_only e = none_changed refl
    write r place w out_of_range e = none_changed refl
    write r place w off_step e = none_changed refl

    go : {a : Answer} → Answered t cs bs a → Changes t cs bs a.cells
    go (refused n h k s) = none_changed refl
    go (no_node_case r asks h e) = none_changed refl
    go (no_property_case r node asks h e f) = none_changed refl
    go acknowledged = none_changed refl
    go (node_described r node asks) = none_changed refl
    go (record-described r place asks) = none_changed refl
    go (word_read r place asks) = none_changed refl
    go (written r place w) = write r place w (outcome (property_in t place) r.value) refl

-- Cells that fit a tree still do.
sent_fits : (t : Tree) (bs : List ℕ) (place value : ℕ) → Saves t bs place value → value < word_end
sent_fits t bs place value s =
    omega (arith, s.sent, value-fits s.request (read_fits bs s.request s.writes.asks) s.writes.writes)

pub cells_stay_sound : (t : Tree) (cs : List Cell) (host : Bool) (bs : List ℕ) → cells_sound t cs ≡ true
    → cells_sound t (answer t cs host bs).cells ≡ true
unfolding cells_sound
cells_stay_sound t cs host bs h = go (changes t cs host bs)
  where
    go : {after : List Cell} → Changes t cs bs after → cells_sound t after ≡ true
    go (none_changed e) = ap (cells_sound t) e ∙ h
    go (one_written place value s e) =
        let c : Cell = stored (cell_in cs place) value in
        ap (cells_sound t) e
        ∙ and_both
        (ap (λ n. eqb n (length t.properties)) (length-set cs place c) ∙ and_left (eqb (length cs) (length t.properties)) _ h)
        (every_set (λ x. ltb x.word word_end) cs place c (and_right (eqb (length cs) (length t.properties)) _ h)
        (lt-ltb value word_end (sent_fits t bs place value s)))

-- An accepted write is answered with 0 and save 01, whatever the cells.
pub write_accepted : (t : Tree) (cs : List Cell) (bs : List ℕ) (place value : ℕ) (s : Saves t bs place value)
    → answer t cs true bs ≡ on_write cs place s.request saved
write_accepted t cs bs place value s =
    write_answered t cs bs s.request place s.writes
    ∙ ap (on_write cs place s.request) (ap (outcome (property_in t place)) s.sent ∙ s.saves)

-- It makes the setting's cell hold the value sent, and leaves its mark.
pub write_holds : (t : Tree) (cs : List Cell) (bs : List ℕ) (place value : ℕ) → cells_sound t cs ≡ true → Saves t bs place value
    → cell_in (answer t cs true bs).cells place ≡ stored (cell_in cs place) value
unfolding on_write cells_after cells_sound
write_holds t cs bs place value h s =
    let r : Request = s.request in
    let size : length cs ≡ length t.properties =
    eqb-true (length cs) (length t.properties) (and_left (eqb (length cs) (length t.properties)) _ h) in
    ap (λ a. cell_in a.cells place) (write_accepted t cs bs place value s)
    ∙ get_or-set_same cs place (stored (cell_in cs place) r.value) _ (omega (arith, size, finds_below t r place s.writes.finds))
    ∙ ap (stored (cell_in cs place)) s.sent

pub saved_done : (cs : List Cell) (place : ℕ) (r : Request) → (on_write cs place r saved).number ≡ done
unfolding on_write write_number
saved_done cs place r = refl

-- Every cell that no accepted write names stays as it was.
pub others_stay : (t : Tree) (cs : List Cell) (host : Bool) (bs : List ℕ) (k : ℕ) → ((value : ℕ) → Saves t bs k value → ⊥)
    → cell_in (answer t cs host bs).cells k ≡ cell_in cs k
others_stay t cs host bs k h = go (changes t cs host bs)
  where
    go : Changes t cs bs (answer t cs host bs).cells → cell_in (answer t cs host bs).cells k ≡ cell_in cs k
    go (none_changed e) = ap (λ l. cell_in l k) e
    go (one_written place value s e) =
        ap (λ l. cell_in l k) e
        ∙ get_or-set_other cs place k (stored (cell_in cs place) value) _
        (λ here. h value (subst (λ p. Saves t bs p value) (sym here) s))

-- Refusals 9 to 13 change no cell.
pub refusal_keeps : (t : Tree) (cs : List Cell) (host : Bool) (bs : List ℕ) → ((answer t cs host bs).number ≡ done → ⊥)
    → (answer t cs host bs).cells ≡ cs
unfolding on_write write_number cells_after
refusal_keeps t cs host bs = go (answered t cs bs host)
  where
    write : (r : Request) (place : ℕ) (o : Outcome) → ((on_write cs place r o).number ≡ done → ⊥) → (on_write cs place r o).cells ≡ cs
    write r place saved h = absurd (h refl)
    write r place taken h = refl
    write r place read_only h = refl
    write r place out_of_range h = refl
    write r place off_step h = refl

    go : {a : Answer} → Answered t cs bs a → (a.number ≡ done → ⊥) → a.cells ≡ cs
    go (refused n p q s) h = refl
    go (no_node_case r asks h e) u = refl
    go (no_property_case r node asks h e f) u = refl
    go acknowledged h = refl
    go (node_described r node asks) h = refl
    go (record-described r place asks) h = refl
    go (word_read r place asks) h = refl
    go (written r place w) h = write r place (outcome (property_in t place) r.value) h

-- Two rules for writes that agree on every property of a tree answer alike.
module _ (f g : Property → ℕ → Outcome) (t : Tree) (same : (place v : ℕ) → f (property_in t place) v ≡ g (property_in t place) v)
    (numbering : Failure → ℕ) (cs : List Cell)
  where
    same_property : (r : Request) (place : ℕ) → on_property f t cs r place ≡ on_property g t cs r place
    unfolding on_property
    same_property r place =
        ap (λ o. cond (eqb r.op op_record) (plain cs done (record_reply (property_in t place) r))
        (cond (eqb r.op op_read) (on_read cs (property_in t place) place r) (on_write cs place r o)))
        (same place r.value)

    same_if_property : (r : Request) (o : Option ℕ) → if_property f numbering t cs r o ≡ if_property g numbering t cs r o
    unfolding if_property
    same_if_property r none = refl
    same_if_property r (some place) = same_property r place

    same_if_node : (r : Request) (o : Option ℕ) → if_node f numbering t cs r o ≡ if_node g numbering t cs r o
    unfolding if_node
    same_if_node r none = refl
    same_if_node r (some place) =
        ap (λ a. cond (eqb r.op op_node) (plain cs done (node_reply t place r)) a)
        (same_if_property r (property_of t place (record { 0 = r.index })))

    same-perform : (r : Request) → perform f numbering t cs r ≡ perform g numbering t cs r
    unfolding perform
    same-perform r = ap (λ a. cond (eqb r.op op_detect) (plain cs done (ACK ∷ [])) a) (same_if_node r (node_at t r.path))

    pub same_answers : (host : Bool) (bs : List ℕ) → answer_by f numbering t cs host bs ≡ answer_by g numbering t cs host bs
    unfolding answer_by if_asked
    same_answers true bs =
        ap (λ a. cond (eqb (read_request bs).number done) a (refuse cs (read_request bs).number)) (same-perform (read_request bs).request)
    same_answers false bs = refl
