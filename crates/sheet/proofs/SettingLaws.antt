-- The settings of a tree, one after the other.
-- Assumes nothing.
use Prim.Native.Nat.{ℕ, ◌+◌, ◌<◌, ◌≤◌}
use mathlib.Core.Path.{◌≡◌, refl, sym, ap, ap₂, ◌∙◌}
use mathlib.Core.Bool.{Bool, true, false, ◌&&◌}
use mathlib.Core.List.{List, [], ◌∷◌}
use lib.ListN.{length}
use Rattle.std.proofs.Common.{Some, None, Bor}
use Rattle.protocol.specs.Bytes.{every}
use Rattle.protocol.specs.Tree.{Property, Tree, property_in}
use Rattle.protocol.specs.Step.{on_step}
use Rattle.protocol.specs.Answer.{in_range}
use Rattle.protocol.specs.Sheet.{is_setting, may_hold, settings_of}
use Rattle.tree.specs.declared.record.Fields.{Fields}
use Rattle.tree.specs.Seen.{seen}
use Rattle.tree.specs.Lookup.{FieldsAre, numbers_of, places_in, NextIs}
use Rattle.tree.proofs.RangeLaws.{range_same}
use Rattle.tree.proofs.StepLaws.{on_same}
use Rattle.tree.proofs.NextLaws.{places_none, places_next}
use Rattle.sheet.specs.declared.setting.Settings.{Settings}
use Rattle.sheet.specs.Steps.{settings_from, rest, Gives}

pub setting_same : {p : Property} {f : Fields} → FieldsAre p f → is_setting (numbers_of f) ≡ is_setting p
setting_same h = rw h.attribute

-- What it may hold, by its two tests.
pub hold_by : (v : ℕ) {p : Property} {f : Fields} {within on : Bool} → FieldsAre p f → within ≡ in_range (numbers_of f) v → on ≡ on_step (numbers_of f) v
    → (within && on) ≡ may_hold p v
unfolding may_hold
hold_by v h r s = ap₂ (λ a b. a && b) (r ∙ range_same v h) (s ∙ on_same v h)

pub settings_all : (t : Tree) → settings_of t ≡ settings_from t 0
unfolding settings_of places_in
settings_all t = refl

-- The next one, or that there is none.
module _ {s : Settings} {k : ℕ} (n : NextIs is_setting (seen s.tree.now) s.from k) where
  pub gives_none : length (seen s.tree.now).properties ≤ k → Gives s None s
  gives_none h =
      let e : rest s ≡ [] = n.same ∙ places_none is_setting (seen s.tree.now) h in
      record { first = (e, e); same = refl; behind = tt; listed = tt; is = tt }

  pub gives_some : k < length (seen s.tree.now).properties → Gives s (Some k) (record { tree = s.tree; from = k + 1 })
  gives_some h =
      record {
        first = n.same ∙ places_next is_setting (seen s.tree.now) h (n.is h);
        same = refl;
        behind = refl;
        listed = h;
        is = n.is h;
      }

-- What that says of a tree's settings.
pub record Next (t : Tree) (s : Settings) (k : ℕ) (n : Settings) : Type 0 where
  pub first : rest s ≡ k ∷ rest n
  pub tree : seen n.tree.now ≡ t
  pub behind : rest n ≡ settings_from t (k + 1)
  pub listed : k < length t.properties
  pub is : is_setting (property_in t k) ≡ true

module _ {t : Tree} {s n : Settings} (e : seen s.tree.now ≡ t) where
  pub next_of : {k : ℕ} → Gives s (Some k) n → Next t s k n
  next_of {k} g =
      record {
        first = g.first;
        tree = ap seen g.same ∙ e;
        behind = ap₂ settings_from (ap seen g.same ∙ e) g.behind;
        listed = let l : k < length (seen s.tree.now).properties = g.listed in rw e at l;
        is = let i : is_setting (property_in (seen s.tree.now) k) ≡ true = g.is in rw e at i;
      }

-- From where a loop goes through them.
pub record Starts (t : Tree) (from : ℕ) (s : Settings) : Type 0 where
  pub tree : seen s.tree.now ≡ t
  pub rest_is : rest s ≡ settings_from t from

pub starts : {s : Settings} {from : ℕ} (tree : Bor (List ℕ)) → s ≡ record { tree = tree; from = from } → Starts (seen tree.now) from s
starts {from = from} tree e =
    record { tree = ap (λ x. seen x.tree.now) e; rest_is = ap rest e }

pub starts_all : {t : Tree} {s : Settings} → Starts t 0 s → settings_of t ≡ rest s
starts_all {t} b = settings_all t ∙ sym b.rest_is

-- A test of settings, one after the other: each is tested with those behind it in view.
module _ (t : Tree) (all : List ℕ → Bool) (one : ℕ → List ℕ → Bool) where
  pub record Tests : Type 0 where
    pub none : all [] ≡ true
    pub more : (k : ℕ) (ks : List ℕ) → all (k ∷ ks) ≡ (one k ks && all ks)

  -- Those before have passed, so that what is left decides.
  pub record Trying (whole : Bool) (s : Settings) : Type 0 where
    pub tree : seen s.tree.now ≡ t
    pub decides : whole ≡ all (rest s)

  module _ (tests : Tests) {whole : Bool} {s : Settings} (y : Trying whole s) where
    module _ {k : ℕ} {n : Settings} (next : Next t s k n) where
      try_here : whole ≡ (one k (settings_from t (k + 1)) && all (rest n))
      try_here =
          y.decides ∙ ap all next.first ∙ tests.more k (rest n) ∙ ap (λ ks. one k ks && all (rest n)) next.behind

      pub try_on : one k (settings_from t (k + 1)) ≡ true → Trying whole n
      try_on e = record { tree = next.tree; decides = try_here ∙ ap (λ b. b && all (rest n)) e }

      pub try_fails : one k (settings_from t (k + 1)) ≡ false → false ≡ whole
      try_fails e = sym (try_here ∙ ap (λ b. b && all (rest n)) e)

    pub try_ends : rest s ≡ [] → true ≡ whole
    try_ends h = sym (y.decides ∙ ap all h ∙ tests.none)

pub every_tests : (t : Tree) (f : ℕ → Bool) → Tests t (every f) (λ k ks. f k)
unfolding every
every_tests t f = record { none = refl; more = λ k ks. refl }
