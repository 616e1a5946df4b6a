-- What is handed back beside a number: the fields of a request, where data stands, a reading, an indicator.
-- Assumes nothing.
use Prim.Native.Nat.{ℕ, ◌-◌, ◌<◌, ◌≤◌}
use native.Mathlib.Omega.{arith}
use mathlib.Core.Path.{◌≡◌, sym, ap, ◌∙◌}
use mathlib.Core.Bool.{Bool, true, cond}
use mathlib.Core.List.{List, []}
use mathlib.Core.Option.{Option, none, some}
use borrow.Author.Tests.{eq-eqb, ne_eqb, lt-ltb, le-ltb}
use lib.ListN.{length, take, drop, replicate, length-append, length-drop, length-replicate}
use lib.Seq.{take_all, length-take-le}
use Rattle.protocol.specs.Numbers.{done, unsound, max_depth}
use Rattle.protocol.specs.Frame.{read_datagram}
use Rattle.protocol.specs.Buffer.{over}
use Rattle.protocol.specs.Request.{Asked}
use Rattle.protocol.specs.Tree.{property_in, cell_in, reading}
use Rattle.protocol.proofs.FrameLaws.{read_datagram-refused}
use Rattle.datagram.proofs.UdpLaws.{data-from-4}
use Rattle.std.specs.Prelude.{Ok, Err, ok_or}
use Rattle.protocol.specs.declared.Refusal.{Refusal}
use Rattle.protocol.specs.declared.Refusal.TheVariants.{NoReading, NoSuchProperty}
use Rattle.protocol.specs.Refusal.{refusal_number, option_of, op_number}
use Rattle.protocol.proofs.RefusalLaws.{refusal_some}
use Rattle.request.specs.declared.Request.{Request}
use Rattle.request.specs.Asked.{padded, AskedIs}
use Rattle.tree.specs.Seen.{seen}
use Rattle.soundness.specs.Sound.{is_tree}
use Rattle.cells.specs.Cells.{cells_in}
use Rattle.cells.specs.Lent.{is_lent, lent_number, read_in}
use Rattle.cells.proofs.CellLaws.{lent_refused, refused_unsound}
use Rattle.pualirqiq.specs.Calls.{tree_number, ReadIs, Handed, handed, fields_of, HandsBack, Locates}

-- A tree alone.
pub tree_number_lem : (tree : List ℕ) (t : Bool) → is_tree tree ≡ t → cond t done unsound ≡ tree_number tree
unfolding tree_number
tree_number_lem tree t e = sym (ap (λ b. cond b done unsound) e)

-- A request that was read, and one that was not.
handed-same : {op op' len len' index index' value value' : ℕ} {path path' : List ℕ} → op ≡ op' → path ≡ path' → len ≡ len' → index ≡ index'
    → value ≡ value' → handed op path len index value ≡ handed op' path' len' index' value'
handed-same a b c d e = cc

-- A path's array has 16 bytes.
padded_room : (path : List ℕ) → max_depth ≤ length (padded path)
unfolding padded over
padded_room path =
    omega (arith, length-append path (drop (length path) (replicate max_depth 0)), length-drop {A = ℕ} (length path) (replicate max_depth 0), length-replicate {A = ℕ} max_depth 0)

module _ (a : Asked) (old : Handed) where
  pub hands_none : (e : Refusal) → AskedIs a (Err e) → HandsBack a old (refusal_number e) old
  hands_none e h =
      let number : refusal_number e ≡ a.number = ap (λ x. x.number) h.is in
      record {
        number = number;
        fields = sym (ap (λ t. cond t (fields_of a.request) old) (ne_eqb a.number done (λ d. refusal_some e (number ∙ d))));
      }

  pub hands_all : (q : Request) → AskedIs a (Ok q)
      → HandsBack a old done (handed (op_number q.op) q.path.numbers q.path.len q.index.0 q.value)
  hands_all q h =
      let fits : q.path.len ≤ length q.path.numbers = omega (arith, q.path.short, padded_room a.request.path, ap length h.path) in
      let is = ap (λ x. x.request) h.is in
      let len : q.path.len ≡ length a.request.path = sym (length-take-le q.path.len q.path.numbers fits) ∙ ap (λ r. length r.path) is in
      record {
        number = ap (λ x. x.number) h.is;
        fields =
            handed-same (ap (λ r. r.op) is) h.path len (ap (λ r. r.index) is) (ap (λ r. r.value) is)
            ∙ sym (ap (λ t. cond t (fields_of a.request) old) (eq-eqb a.number done (sym (ap (λ x. x.number) h.is))));
      }

-- A datagram's data.
module _ (s : List ℕ) {n : ℕ} (told : n ≡ (read_datagram s).number) where
  pub locates_none : (n ≡ done → ⊥) → Locates (read_datagram s) s n 0 0
  locates_none u =
      let bad : (read_datagram s).number ≡ done → ⊥ = λ d. u (told ∙ d) in
      let nothing : (read_datagram s).payload ≡ [] = read_datagram-refused s bad in
      record {
        number = told;
        offset_is = sym (ap (λ t. cond t 4 0) (ne_eqb (read_datagram s).number done bad));
        len_is = sym (ap length nothing);
        part = sym nothing;
      }

  pub locates_data : n ≡ done → Locates (read_datagram s) s done 4 (length s - 4)
  locates_data d =
      let good : (read_datagram s).number ≡ done = sym told ∙ d in
      let is : take (length s - 4) (drop 4 s) ≡ (read_datagram s).payload = data-from-4 s good in
      record {
        number = sym good;
        offset_is = sym (ap (λ t. cond t 4 0) (eq-eqb (read_datagram s).number done good));
        len_is = sym (ap length (sym is) ∙ ap length (take_all (length s - 4) (drop 4 s) (omega (arith, length-drop 4 s))) ∙ length-drop 4 s);
        part = is;
      }

-- A reading.
module _ (tree cells : List ℕ) (place : ℕ) where
  pub reads_unsound : (e : Refusal) → refusal_number e ≡ lent_number tree cells → ReadIs (read_in tree cells place) (Err e)
  unfolding read_in
  reads_unsound e h = rw (lent_refused tree cells h (refusal_some e), refused_unsound tree cells h (refusal_some e))

  module _ (lent : is_lent tree cells ≡ true) where
    pub reads_missing : length (seen tree).properties ≤ place → ReadIs (read_in tree cells place) (Err NoSuchProperty)
    unfolding read_in
    reads_missing h = rw (lent, le-ltb place (length (seen tree).properties) h)

    module _ (h : place < length (seen tree).properties) where
      pub read_there : (o : Option ℕ) → reading (property_in (seen tree) place) (cell_in (cells_in cells) place) ≡ o
          → ReadIs (read_in tree cells place) (ok_or (option_of o) NoReading)
      unfolding read_in
      read_there none e = rw (lent, lt-ltb place (length (seen tree).properties) h, e)
      read_there (some n) e = rw (lent, lt-ltb place (length (seen tree).properties) h, e)
