-- A listing read back: its entries can be told apart.
-- Assumes nothing.
use Prim.Native.Nat.{ℕ}
use native.Mathlib.Omega.{arith}
use mathlib.Core.Path.{◌≡◌, refl, sym, ap, ap₂, ◌∙◌}
use mathlib.Core.Bool.{true, not}
use mathlib.Core.List.{List, [], ◌∷◌, ◌++◌, append_assoc, append_cancel_left, head-eq_of_cons-eq, tail-eq_of_cons-eq}
use borrow.Author.Tests.{ne_eqb, leb-true}
use lib.Dec.{eqb, leb, ltb}
use lib.ListN.{length}
use Rattle.protocol.specs.Numbers.{max_name, first_character}
use Rattle.protocol.specs.Bytes.{every}
use Rattle.protocol.specs.Tree.{Property, Tree, is_character, is_name, widths_sound, live_sound, kind_sound, property_sound, node_in, property_in, sound}
use Rattle.protocol.specs.Text.{each, decimal, dotted, line}
use Rattle.protocol.specs.Listing.{Item, node, property, Entry, node_entry, property_entry, entry_of, entry_text, path_key, name_key, children_key, properties_key, index_key, label_key, type_key, items, entries, listing}
use Rattle.protocol.specs.Listed.{lacks, unbroken}
use Rattle.protocol.proofs.TestLaws.{and_left, and_right, every_at, every_weaker, every_map}
use Rattle.protocol.proofs.DecimalLaws.{decimal_told, decimal-lacks, dotted_told, dotted-lacks, ends_told}
use Rattle.protocol.proofs.OnceLaws.{Rules, rules, property_passes}

-- A line, and what stands behind it.
pub line_on : (key value r : List ℕ) → line key value ++ r ≡ key ++ 61 ∷ (value ++ 10 ∷ r)
unfolding line
line_on key value r =
    append_assoc key (61 ∷ (value ++ 10 ∷ [])) r ∙ ap (λ l. key ++ 61 ∷ l) (append_assoc value (10 ∷ []) r)

line_told : (key v w r s : List ℕ) → lacks 10 v ≡ true → lacks 10 w ≡ true → line key v ++ r ≡ line key w ++ s → (v ≡ w) × (r ≡ s)
line_told key v w r s h k e =
    let after = append_cancel_left key _ _ (sym (line_on key v r) ∙ e ∙ line_on key w s) in
    ends_told 10 v w r s h k (tail-eq_of_cons-eq after)

number_told : (key : List ℕ) (m n : ℕ) (r s : List ℕ) → line key (decimal m) ++ r ≡ line key (decimal n) ++ s → (m ≡ n) × (r ≡ s)
number_told key m n r s e =
    let both = line_told key (decimal m) (decimal n) r s (decimal-lacks 10 (omega arith) m) (decimal-lacks 10 (omega arith) n) e in
    (decimal_told m n both.0, both.1)

-- An entry's path, and what stands behind the line of it.
path_of : Entry → List ℕ
path_of (node_entry path name children properties) = path
path_of (property_entry path index label kind) = path

behind : Entry → List ℕ → List ℕ
behind (node_entry path name children properties) r =
    line name_key name ++ (line children_key (decimal children) ++ (line properties_key (decimal properties) ++ r))
behind (property_entry path index label kind) r =
    line index_key (decimal index) ++ (line label_key label ++ (line type_key (decimal kind) ++ r))

entry-on : (e : Entry) (r : List ℕ) → entry_text e ++ r ≡ line path_key (dotted (path_of e)) ++ behind e r
unfolding entry_text path_of behind
entry-on (node_entry path name children properties) r = simp append_assoc
entry-on (property_entry path index label kind) r = simp append_assoc

-- Behind it a node's text begins with "n", and a property's with "i".
apart : {A : Type 0} (v w r s : List ℕ) → line name_key v ++ r ≡ line index_key w ++ s → A
unfolding line
apart v w r s e = absurd (omega (arith, head-eq_of_cons-eq e))

behind_told : (e f : Entry) (r s : List ℕ) → unbroken e ≡ true → unbroken f ≡ true → path_of e ≡ path_of f → behind e r ≡ behind f s
    → (e ≡ f) × (r ≡ s)
unfolding path_of behind
behind_told (node_entry p a c n) (node_entry q b d m) r s h k path e =
    let x = line_told name_key a b _ _ h k e in
    let y = number_told children_key c d _ _ x.1 in
    let z = number_told properties_key n m r s y.1 in
    (cc (path, x.0, y.0, z.0), z.1)
behind_told (node_entry p a c n) (property_entry q j b u) r s h k path e = apart a (decimal j) _ _ e
behind_told (property_entry p i a t) (node_entry q b d m) r s h k path e = apart b (decimal i) _ _ (sym e)
behind_told (property_entry p i a t) (property_entry q j b u) r s h k path e =
    let x = number_told index_key i j _ _ e in
    let y = line_told label_key a b _ _ h k x.1 in
    let z = number_told type_key t u r s y.1 in
    (cc (path, x.0, y.0, z.0), z.1)

entry_told : (e f : Entry) (r s : List ℕ) → unbroken e ≡ true → unbroken f ≡ true → entry_text e ++ r ≡ entry_text f ++ s → (e ≡ f) × (r ≡ s)
entry_told e f r s h k d =
    let both =
    line_told path_key (dotted (path_of e)) (dotted (path_of f)) (behind e r) (behind f s) (dotted-lacks (path_of e)) (dotted-lacks (path_of f)) (sym (entry-on e r) ∙ d ∙ entry-on f s) in
    behind_told e f r s h k (dotted_told (path_of e) (path_of f) both.0) both.1

no_text : {A : Type 0} (e : Entry) (r : List ℕ) → [] ≡ entry_text e ++ r → A
unfolding line
no_text e r d = absurd (omega (arith, ap length (d ∙ entry-on e r)))

-- Entries with the same text are the same.
pub entries_told : (es fs : List Entry) → every unbroken es ≡ true → every unbroken fs ≡ true → each entry_text es ≡ each entry_text fs → es ≡ fs
unfolding every each
entries_told [] [] h k d = refl
entries_told [] (f ∷ fs) h k d = no_text f (each entry_text fs) d
entries_told (e ∷ es) [] h k d = no_text e (each entry_text es) (sym d)
entries_told (e ∷ es) (f ∷ fs) h k d =
    let both =
    entry_told e f (each entry_text es) (each entry_text fs) (and_left (unbroken e) _ h) (and_left (unbroken f) _ k) d in
    ap₂ (λ x l. x ∷ l) both.0
    (entries_told es fs (and_right (unbroken e) _ h) (and_right (unbroken f) _ k) both.1)

-- The names and labels of a sound tree have characters only.
name_lacks : (s : List ℕ) → is_name s ≡ true → lacks 10 s ≡ true
unfolding is_name
name_lacks s h =
    every_weaker is_character (λ c. not (eqb c 10))
    (λ c d. ap not (ne_eqb c 10 (λ e. omega (arith, e, leb-true first_character c (and_left (leb first_character c) _ d)))))
    s
    (and_right (leb (length s) max_name) _ h)

label_named : (n : ℕ) (p : Property) → property_sound n p ≡ true → is_name p.label ≡ true
unfolding property_sound
label_named n p h =
    and_left (is_name p.label) _
    (and_right (kind_sound p) _
    (and_right (live_sound p) _ (and_right (widths_sound p) _ (and_right (ltb p.node n) _ h))))

entry-unbroken : (t : Tree) → Rules t → (i : Item) → unbroken (entry_of t i) ≡ true
unfolding entry_of is_name every
entry-unbroken t r (node k path) =
    name_lacks (node_in t k).name (every_at (λ n. is_name n.name) t.nodes _ r.names refl k)
entry-unbroken t r (property p path index) =
    name_lacks (property_in t p).label
    (property_passes t r (λ q. is_name q.label) (label_named (length t.nodes)) refl p)

pub entries-unbroken : (t : Tree) → sound t ≡ true → every unbroken (entries t) ≡ true
unfolding entries
entries-unbroken t h = every_map unbroken (entry_of t) (entry-unbroken t (rules t h)) (items t)

-- Sound trees with the same listing have the same entries.
pub listing_told : (t u : Tree) → sound t ≡ true → sound u ≡ true → listing t ≡ listing u → entries t ≡ entries u
unfolding listing
listing_told t u h k e = entries_told (entries t) (entries u) (entries-unbroken t h) (entries-unbroken u k) e
