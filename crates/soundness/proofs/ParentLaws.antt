-- The nodes' parents and depths, read node after node.
-- Assumes nothing.
use Prim.Native.Nat.{ℕ, suc, ◌+◌, ◌*◌, ◌<◌, ◌≤◌}
use native.Mathlib.Omega.{arith}
use native.Mathlib.Nat.{not-suc-le-zero}
use native.Mathlib.Numerals.{add-one}
use mathlib.Core.Path.{◌≡◌, refl, sym, ap, ap₂, ◌∙◌}
use mathlib.Core.Bool.{Bool, true, false, ◌&&◌}
use mathlib.Core.List.{List, [], ◌∷◌, ◌++◌}
use borrow.Author.Tests.{lt-ltb, le-ltb, le-leb, lt-leb, eq-eqb, ne_eqb}
use lib.ListN.{length, get_or, take, drop, set, length-set, drop_of_length-le}
use lib.Seq.{drop-cons, get_or-take, length-take-le, take-suc-set}
use lib.Dec.{eqb, leb}
use Rattle.protocol.specs.Numbers.{max_depth, max_nodes}
use Rattle.tree.specs.Form.{node_size}
use Rattle.tree.specs.Seen.{node_count}
use Rattle.tree.proofs.RecordLaws.{records_length, first_at}
use Rattle.soundness.specs.Check.{depths_fit, parents_fit, parents_in}

-- A node's parent that stands behind it, one that stands too deep, and one that does neither.
module _ (p : ℕ) (ps known : List ℕ) where
  behind : length known ≤ p → depths_fit (p ∷ ps) known ≡ false
  unfolding depths_fit
  behind h = rw (le-ltb p (length known) h)

  too_deep : p < length known → max_depth ≤ get_or known p 0 → depths_fit (p ∷ ps) known ≡ false
  unfolding depths_fit
  too_deep h d = rw (lt-ltb p (length known) h, le-ltb (get_or known p 0) max_depth d)

  one_more : p < length known → get_or known p 0 < max_depth → depths_fit (p ∷ ps) known ≡ depths_fit ps (known ++ suc (get_or known p 0) ∷ [])
  unfolding depths_fit
  one_more h d = rw (lt-ltb p (length known) h, lt-ltb (get_or known p 0) max_depth d)

sound_first : (ps : List ℕ) → 1 ≤ length ps → parents_fit ps ≡ (eqb (get_or ps 0 0) 0 && depths_fit (drop 1 ps) (1 ∷ []))
unfolding parents_fit
sound_first [] h = absurd (not-suc-le-zero h)
sound_first (p ∷ ps) h = refl

sound_empty : (ps : List ℕ) → length ps ≡ 0 → parents_fit ps ≡ false
unfolding parents_fit
sound_empty [] h = refl
sound_empty (p ∷ ps) h = absurd (omega (arith, h))

module _ (bs : List ℕ) where
  parents_length : length (parents_in bs) ≡ node_count bs
  parents_length = records_length node_size (λ r. get_or r 0 0) (node_count bs) (drop 2 bs)

  parent_at : (k : ℕ) → k < node_count bs → get_or (parents_in bs) k 0 ≡ get_or bs (2 + k * node_size) 0
  parent_at k h = first_at node_size (node_count bs) 2 bs k h

  -- What the check says of nodes that are too many, that are none, or of which the device names another.
  pub too_many : max_nodes < node_count bs → false ≡ (leb (node_count bs) max_nodes && parents_fit (parents_in bs))
  too_many h = sym (ap (λ t. t && parents_fit (parents_in bs)) (lt-leb (node_count bs) max_nodes h))

  counted : {t : Bool} → node_count bs ≤ max_nodes → parents_fit (parents_in bs) ≡ t
      → t ≡ (leb (node_count bs) max_nodes && parents_fit (parents_in bs))
  counted h e = sym (ap₂ (λ a b. a && b) (le-leb (node_count bs) max_nodes h) e)

  pub no_device : node_count bs ≡ 0 → false ≡ (leb (node_count bs) max_nodes && parents_fit (parents_in bs))
  no_device h = counted (omega (arith, h)) (sound_empty (parents_in bs) (parents_length ∙ h))

  pub device_elsewhere : node_count bs ≤ max_nodes → 1 ≤ node_count bs → (get_or bs 2 0 ≡ 0 → ⊥)
      → false ≡ (leb (node_count bs) max_nodes && parents_fit (parents_in bs))
  device_elsewhere m h d =
      counted m
      (sound_first (parents_in bs) (omega (arith, h, parents_length))
      ∙ ap (λ t. t && depths_fit (drop 1 (parents_in bs)) (1 ∷ [])) (ne_eqb (get_or (parents_in bs) 0 0) 0 (λ e. d (sym (parent_at 0 h) ∙ e))))

-- The nodes up to a place, with their depths.
pub record Descending (bs : List ℕ) (nodes : ℕ) (depths : List ℕ) (k : ℕ) : Type 0 where
  pub count : nodes ≡ node_count bs
  pub most : nodes ≤ max_nodes
  pub first : 1 ≤ k
  pub within : k ≤ nodes
  pub size : length depths ≡ max_nodes
  pub whole : parents_fit (parents_in bs) ≡ depths_fit (drop k (parents_in bs)) (take k depths)

module _ {bs : List ℕ} {nodes : ℕ} {depths : List ℕ} where
  pub descend-begins : nodes ≡ node_count bs → nodes ≤ max_nodes → 1 ≤ nodes → get_or bs 2 0 ≡ 0 → length depths ≡ max_nodes
      → take 1 depths ≡ 1 ∷ [] → Descending bs nodes depths 1
  descend-begins e m h d s one =
      record {
        count = e;
        most = m;
        first = omega arith;
        within = h;
        size = s;
        whole =
            sound_first (parents_in bs) (omega (arith, parents_length bs))
            ∙ ap (λ t. t && depths_fit (drop 1 (parents_in bs)) (1 ∷ [])) (eq-eqb (get_or (parents_in bs) 0 0) 0 (parent_at bs 0 (omega arith) ∙ d))
            ∙ ap (depths_fit (drop 1 (parents_in bs))) (sym one);
      }

  module _ {k : ℕ} (w : Descending bs nodes depths k) where
    counts : node_count bs ≤ max_nodes
    counts = omega (arith, w.count, w.most)

    pub descend-ends : nodes ≤ k → true ≡ (leb (node_count bs) max_nodes && parents_fit (parents_in bs))
    unfolding depths_fit
    descend-ends h =
        counted bs counts
        (w.whole
        ∙ ap (λ l. depths_fit l (take k depths)) (drop_of_length-le (parents_in bs) {i = k} (omega (arith, w.count, parents_length bs))))

    module _ (h : k < nodes) {p : ℕ} (e : p ≡ get_or bs (2 + k * node_size) 0) where
      known : length (take k depths) ≡ k
      known = length-take-le k depths (omega (arith, w.size, w.most))

      here : parents_fit (parents_in bs) ≡ depths_fit (p ∷ drop (suc k) (parents_in bs)) (take k depths)
      here =
          let inside : k < node_count bs = omega (arith, w.count) in
          w.whole
          ∙ ap (λ l. depths_fit l (take k depths))
          (drop-cons (parents_in bs) k 0 (omega (arith, parents_length bs))
          ∙ ap (λ x. x ∷ drop (suc k) (parents_in bs)) (parent_at bs k inside ∙ sym e))

      pub descend_behind : k ≤ p → false ≡ (leb (node_count bs) max_nodes && parents_fit (parents_in bs))
      descend_behind q =
          counted bs counts (here ∙ behind p (drop (suc k) (parents_in bs)) (take k depths) (omega (arith, known)))

      pub descend_deep : p < k → max_depth ≤ get_or depths p 0 → false ≡ (leb (node_count bs) max_nodes && parents_fit (parents_in bs))
      descend_deep q d =
          counted bs counts
          (here
          ∙ too_deep p (drop (suc k) (parents_in bs)) (take k depths) (omega (arith, known))
          (omega (arith, get_or-take k depths p 0 q)))

      pub descend-on : p < k → get_or depths p 0 < max_depth → Descending bs nodes (set depths k (get_or depths p 0 + 1)) (k + 1)
      descend-on q d =
          let depth : ℕ = get_or depths p 0 in
          let parent_depth : get_or (take k depths) p 0 ≡ depth = get_or-take k depths p 0 q in
          record {
            count = w.count;
            most = w.most;
            first = omega arith;
            within = omega arith;
            size = length-set depths k (depth + 1) ∙ w.size;
            whole =
                here
                ∙ one_more p (drop (suc k) (parents_in bs)) (take k depths) (omega (arith, known)) (omega (arith, parent_depth))
                ∙ ap (λ n. depths_fit (drop (suc k) (parents_in bs)) (take k depths ++ n ∷ [])) (ap suc parent_depth ∙ sym (add-one depth))
                ∙ ap (depths_fit (drop (suc k) (parents_in bs))) (sym (take-suc-set depths k (depth + 1) (omega (arith, w.size, w.most))))
                ∙ ap (λ n. depths_fit (drop n (parents_in bs)) (take n (set depths k (depth + 1)))) (sym (add-one k));
          }
