-- Rows are the rows of the paths, and the paths stand in the order of their choices. Assumes nothing.
use Rattle.std.specs.Prelude.{ℕ, suc, ◌<◌, ◌≤◌, ◌≡◌, refl, Bool, true, false, cond, eqb}
use Rattle.std.proofs.Common.{sym, ◌∙◌, le_refl}
use mathlib.Core.List.{List, [], ◌∷◌, ◌++◌, map, flat_map}
use Rattle.std.proofs.Math.Nat.{le_of_suc-le}
use Rattle.meaning.specs.Tests.{is_class}
use Rattle.meaning.specs.Lists.{All, nil, cons, all_append, all_map, map_append, map_map}
use Rattle.meaning.specs.Graph.{Graph, nodes_of, ids, fits}
use Rattle.meaning.specs.Pattern.{Pattern}
use Rattle.meaning.specs.Instance.{inst}
use Rattle.meaning.specs.Program.{Instr, bind, compare, lookat, scan, Held, row, at, gives, Path, path, chose, walk, paths, rows}

walk_flat : {A B C : Type 0} (h : B → C) (f : ℕ → A → List B) (e : A → List C) (k : ℕ) (l : List A) → ((k : ℕ) (a : A) → map h (f k a) ≡ e a) → map h (walk f k l) ≡ flat_map e l
unfolding walk flat_map
walk_flat h f e k [] s = refl
walk_flat h f e k (a ∷ l) s = map_append h (f k a) (walk f (suc k) l) ∙ cc (s k a, walk_flat h f e (suc k) l s)

map_cond : {B C : Type 0} (h : B → C) (b : Bool) (l : List B) (m : List C) → map h l ≡ m → map h (cond b l []) ≡ cond b m []
map_cond h true l m e = e
map_cond h false l m e = refl

pub paths_rows : (g : Graph) (p : Pattern) (H : List Held) (is : List Instr) (ρ : List ℕ) → map (λ π. row H π.regs) (paths g p H is ρ) ≡ rows g p H is ρ
unfolding paths rows
paths_rows g p H [] ρ = refl
paths_rows g p H (bind q m o a i ∷ is) ρ = walk_flat _ _ _ 0 (nodes_of g (at ρ i))
    (λ k n. map_cond _ (fits o a n) _ _ (sym (map_map (λ (π : Path). row H π.regs) (chose k) (paths g p H is (ρ ++ n.kids))) ∙ paths_rows g p H is (ρ ++ n.kids)))
paths_rows g p H (compare q i j ∷ is) ρ = map_cond _ (eqb (at ρ i) (at ρ j)) _ _ (paths_rows g p H is ρ)
paths_rows g p H (lookat q n i ∷ is) ρ = map_cond _ (is_class (inst g p (gives H ρ) n) (at ρ i)) _ _ (paths_rows g p H is ρ)
paths_rows g p H (scan q ∷ is) ρ = walk_flat _ _ _ 0 (ids g)
    (λ k c. sym (map_map (λ (π : Path). row H π.regs) (chose k) (paths g p H is (ρ ++ (c ∷ [])))) ∙ paths_rows g p H is (ρ ++ (c ∷ [])))

-- the first choice that differs is smaller
pub data Before : List ℕ → List ℕ → Type 0 where
  now : {a b : ℕ} {x y : List ℕ} → a < b → Before (a ∷ x) (b ∷ y)
  later : {a : ℕ} {x y : List ℕ} → Before x y → Before (a ∷ x) (a ∷ y)

-- each stands before all that follow
pub data Rising : List Path → Type 0 where
  none : Rising []
  next : {π : Path} {l : List Path} → All (λ (θ : Path). Before π.choices θ.choices) l → Rising l → Rising (π ∷ l)

-- the first choice is k or more
data Starts (k : ℕ) : Path → Type 0 where
  starts : {j : ℕ} {ks ρ : List ℕ} → k ≤ j → Starts k (path (j ∷ ks) ρ)

rising_append : {s t : List Path} → Rising s → Rising t → All (λ (π : Path). All (λ (θ : Path). Before π.choices θ.choices) t) s → Rising (s ++ t)
rising_append none u c = u
rising_append (next a r) u (cons h c) = next (all_append a h) (rising_append r u c)

all_chose : (k : ℕ) (π : Path) {l : List Path} → All (λ (θ : Path). Before π.choices θ.choices) l → All (λ (θ : Path). Before (k ∷ π.choices) θ.choices) (map (chose k) l)
all_chose k π nil = nil
all_chose k π (cons {x = θ} h a) = cons {x = chose k θ} (later h) (all_chose k π a)

rising_chose : (k : ℕ) {l : List Path} → Rising l → Rising (map (chose k) l)
rising_chose k none = none
rising_chose k (next {π = π} a r) = next {π = chose k π} (all_chose k π a) (rising_chose k r)

starts_chose : (k : ℕ) (l : List Path) → All (Starts k) (map (chose k) l)
starts_chose k [] = nil
starts_chose k (π ∷ l) = cons (starts (le_refl k)) (starts_chose k l)

starts_less : {k : ℕ} {π : Path} → Starts (suc k) π → Starts k π
starts_less (starts h) = starts (le_of_suc-le h)

-- a path that chose k stands before those that chose more
first : (k : ℕ) (π : Path) {t : List Path} → All (Starts (suc k)) t → All (λ (θ : Path). Before (k ∷ π.choices) θ.choices) t
first k π nil = nil
first k π (cons h a) = cons (one h) (first k π a)
  where
    one : {θ : Path} → Starts (suc k) θ → Before (k ∷ π.choices) θ.choices
    one (starts l) = now l

firsts : (k : ℕ) (l : List Path) {t : List Path} → All (Starts (suc k)) t → All (λ (π : Path). All (λ (θ : Path). Before π.choices θ.choices) t) (map (chose k) l)
firsts k [] a = nil
firsts k (π ∷ l) a = cons {x = chose k π} (first k π a) (firsts k l a)

walk_starts : {A : Type 0} (f : ℕ → A → List Path) (k : ℕ) (l : List A) → ((k : ℕ) (a : A) → All (Starts k) (f k a)) → All (Starts k) (walk f k l)
unfolding walk
walk_starts f k [] s = nil
walk_starts f k (a ∷ l) s = all_append (s k a) (all_map (λ π h. starts_less h) (walk_starts f (suc k) l s))

-- a walk over places, each with its own paths
walk_rising : {A : Type 0} (f : A → List Path) (b : A → Bool) (k : ℕ) (l : List A) → ((a : A) → Rising (f a)) → Rising (walk (λ k a. cond (b a) (map (chose k) (f a)) []) k l)
unfolding walk
walk_rising f b k [] r = none
walk_rising f b k (a ∷ l) r = go (b a) (walk_rising f b (suc k) l r) (walk_starts (λ k a. cond (b a) (map (chose k) (f a)) []) (suc k) l (λ k a. each k (b a) (f a)))
  where
    each : (k : ℕ) (t : Bool) (l : List Path) → All (Starts k) (cond t (map (chose k) l) [])
    each k true l = starts_chose k l
    each k false l = nil

    go : {t : List Path} (c : Bool) → Rising t → All (Starts (suc k)) t → Rising (cond c (map (chose k) (f a)) [] ++ t)
    go true u s = rising_append (rising_chose k (r a)) u (firsts k (f a) s)
    go false u s = u

rising_cond : (b : Bool) {l : List Path} → Rising l → Rising (cond b l [])
rising_cond true r = r
rising_cond false r = none

-- of two paths, the one whose first differing choice is earlier comes first
pub in_order : (g : Graph) (p : Pattern) (H : List Held) (is : List Instr) (ρ : List ℕ) → Rising (paths g p H is ρ)
unfolding paths
in_order g p H [] ρ = next nil none
in_order g p H (bind q m o a i ∷ is) ρ = walk_rising (λ n. paths g p H is (ρ ++ n.kids)) (fits o a) 0 (nodes_of g (at ρ i)) (λ n. in_order g p H is (ρ ++ n.kids))
in_order g p H (compare q i j ∷ is) ρ = rising_cond (eqb (at ρ i) (at ρ j)) (in_order g p H is ρ)
in_order g p H (lookat q n i ∷ is) ρ = rising_cond (is_class (inst g p (gives H ρ) n) (at ρ i)) (in_order g p H is ρ)
in_order g p H (scan q ∷ is) ρ = walk_rising (λ c. paths g p H is (ρ ++ (c ∷ []))) (λ c. true) 0 (ids g) (λ c. in_order g p H is (ρ ++ (c ∷ [])))
