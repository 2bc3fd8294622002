-- A search over the whole graph: each class's rows after it, nothing twice. Assumes nothing.
use Rattle.std.proofs.Common.{ℕ, ◌≡◌, List, ◌∷◌, map, ◌↔◌, sym, ◌∙◌}
use mathlib.Core.List.Memᴰ.{cast as mem-cast}
use mathlib.Core.List.{Memᴰ as Mem}
use Rattle.meaning.specs.Lists.{NoDup, empty, more, from_walk, to_walk, walk_nodup, from_map, mem_map}
use Rattle.meaning.specs.Graph.{Graph, ids, WellFormed}
use Rattle.meaning.specs.Pattern.{Pattern, Ordered}
use Rattle.meaning.specs.Program.{asg}
use Rattle.meaning.specs.Compiler.{compile}
use Rattle.meaning.specs.Matching.{run_of, matches, matches_all}
use Rattle.meaning.specs.Search.Listing.{Lists}
use Rattle.meaning.specs.Search.Rowlaws.{row_asg}
use Rattle.meaning.proofs.Laws.Lookup.{ids_once}
use Rattle.meaning.proofs.Search.Theorem.{rows_right}

nodup_map : {A B : Type 0} (f : A → B) {l : List A} → ((x y : A) → f x ≡ f y → x ≡ y) → NoDup l → NoDup (map f l)
nodup_map f i empty = empty
nodup_map f i (more {x = x} {l = l} n d) = more (λ m. let (y, k, e) = from_map f l m in n (mem-cast (i x y e) k)) (nodup_map f i d)

-- a line is a class and one of its rows
pub whole : (g : Graph) (p : Pattern) (x : List ℕ) → Mem x (matches_all g p) ↔ ((c : ℕ) × Mem c (ids g) × ((w : List ℕ) × Mem w (matches g p c) × (x ≡ c ∷ w)))
unfolding matches_all matches
whole g p x = (
  λ m. let (c, k, h) = from_walk (λ c. map (λ w. c ∷ w) (run_of g p (compile p) c)) (ids g) m in (c, k, from_map (λ w. c ∷ w) (run_of g p (compile p) c) h),
  λ t. to_walk (λ c. map (λ w. c ∷ w) (run_of g p (compile p) c)) t.1 (mem-cast t.2.2 (mem_map (λ w. t.0 ∷ w) t.2.1)),
)

pub whole_once : {g : Graph} {p : Pattern} → WellFormed g → Ordered p → NoDup (matches_all g p)
unfolding matches_all matches
whole_once {g} {p} w o = walk_nodup (λ c. map (λ w. c ∷ w) (run_of g p (compile p) c)) (ids_once w)
    (λ c m. nodup_map (λ w. c ∷ w) (λ x y e. cc) (rows_right w o c m).once)
    (λ a c b k m h j. let (x, r, e) = from_map (λ w. a ∷ w) (run_of g p (compile p) a) h in let (y, s, f) = from_map (λ w. c ∷ w) (run_of g p (compile p) c) j in
    let q : a ∷ x ≡ c ∷ y = sym e ∙ f in cc)

-- two lists of the same assignments have the same rows
pub same_rows : {K : ℕ → Type 0} {us : List ℕ} {L M : List (List ℕ)} {S : (ℕ → ℕ) → Type 0} → NoDup us → Lists K us L S → Lists K us M S → (w : List ℕ) → Mem w L → Mem w M
same_rows {us = us} d l m w k = mem-cast (sym (row_asg us w d (l.wide w k))) (m.complete (asg us w) (l.sound w k))
