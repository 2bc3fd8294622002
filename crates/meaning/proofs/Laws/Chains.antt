-- `(0..n).all(f)` and `(0..n).any(f)`, and `l.iter().all(f)`, where each call of f tells what p computes. Assumes nothing.
use Rattle.std.proofs.Common.{ℕ, zero, suc, ◌+◌, ◌<◌, ◌≤◌, ◌≡◌, Bool, true, false, not, ◌&&◌, ◌||◌, List, [], ◌∷◌, length, get_or, Option, sym, ap, ◌∙◌, refl, arith, zero-add}
use Rattle.std.proofs.Math.Nat.{sub-zero}
use Rattle.std.specs.declared.ops.Range.{Range}
use Rattle.std.specs.List.{list_all, list_any, range_with_len, FoldsTo}
use Rattle.std.specs.Fn.{Called}
use Rattle.std.specs.Iterator.{YieldsThen}
use Rattle.std.specs.Option.{MatchOption}
use Rattle.std.specs.declared.slice.Iter.{Iter}
use Rattle.std.specs.Slice.Iter.{iter_rest}
use Rattle.std.proofs.iter.Yields.{fronts, nat_range_steps}
use Rattle.std.proofs.lemmas.List.FromFn.{length-range_with_len, get_or-range_with_len}
use Rattle.std.proofs.lemmas.Iterator.{YieldsList-from_slice, YieldsList-from_range}
use Rattle.std.proofs.lemmas.Iterator.Search.{all_from_yields_List, any_from_yields_List}
use denote.Param.Members.{Mut}
use denote.Ref.{Bor}
use Rattle.meaning.specs.Tests.{and, all_below, all_at, all_of, apart}
use Rattle.meaning.specs.PatternRefusal.{some_below}
use Rattle.meaning.proofs.Laws.Ands.{and_true, and_false}

alike : (a b : Bool) → (a ≡ true → b ≡ true) → (b ≡ true → a ≡ true) → a ≡ b
alike true b f g = sym (f refl)
alike false true f g = g refl
alike false false f g = refl

left : (a b : Bool) → (a && b) ≡ true → a ≡ true
left true b h = refl
left false b h = h

right : (a b : Bool) → (a && b) ≡ true → b ≡ true
right true b h = h
right false b h = apart (sym h)

each_item : (p : ℕ → Bool) (l : List ℕ) → list_all p l ≡ true → (k : ℕ) → k < length l → p (get_or l k 0) ≡ true
each_item p [] h k b = absurd (omega arith)
each_item p (x ∷ l) h zero b = left (p x) (list_all p l) h
each_item p (x ∷ l) h (suc k) b = each_item p l (right (p x) (list_all p l) h) k (omega arith)

every_item : (p : ℕ → Bool) (l : List ℕ) → ((k : ℕ) → k < length l → p (get_or l k 0) ≡ true) → list_all p l ≡ true
every_item p [] f = refl
every_item p (x ∷ l) f = rw (f 0 (omega arith)) (every_item p l (λ k b. f (suc k) (omega arith)))

all_items : (p q : ℕ → Bool) (l : List ℕ) (n : ℕ) → length l ≡ n → ((k : ℕ) → k < n → p (get_or l k 0) ≡ q k) → list_all p l ≡ all_below q n
all_items p q l n e f = alike _ _
    (λ h. all_of q n (λ k b. sym (f k b) ∙ each_item p l h k (omega arith)))
    (λ h. every_item p l (λ k b. let c : k < n = omega arith in f k c ∙ all_at q n h k c))

all_list : (p : ℕ → Bool) (n : ℕ) → list_all p (range_with_len 0 n) ≡ all_below p n
all_list p n = all_items p p (range_with_len 0 n) n (length-range_with_len 0 n) (λ k b. ap p (get_or-range_with_len 0 n k 0 b ∙ zero-add k))

not_none : (p : ℕ → Bool) (l : List ℕ) → list_any p l ≡ not (list_all (λ x. not (p x)) l)
not_none p [] = refl
not_none p (x ∷ l) = go (p x) (not_none p l)
  where
    go : (b : Bool) → list_any p l ≡ not (list_all (λ y. not (p y)) l) → (b || list_any p l) ≡ not (not b && list_all (λ y. not (p y)) l)
    go true e = refl
    go false e = e

any_list : (p : ℕ → Bool) (n : ℕ) → list_any p (range_with_len 0 n) ≡ some_below p n
unfolding some_below
any_list p n = not_none p (range_with_len 0 n) ∙ ap not (all_list (λ x. not (p x)) n)

module _ {F : Type 0} {g : Mut F (ℕ × Unit {0}) Bool} {s : Range ℕ} (p : ℕ → Bool) (n : ℕ) (e : s ≡ record { start = 0; end = n }) (u : Range ℕ) (f : F) (r : Bool) where
  pub all_passes : (xs : List ℕ) × (o : Option ℕ) × (j : F) × YieldsThen nat_range_steps s xs o u × FoldsTo (λ p x q. Called g p (x, tt) true q) f xs j × MatchOption o (r ≡ true) (λ x. (r ≡ false) × ((h : F) × Called g j (x, tt) false h))
      → ((x : ℕ) (b : Bool) (q : F) → Called g f (x, tt) b q → (q ≡ f) × (b ≡ p x)) → r ≡ all_below p n
  all_passes ran tells = all_from_yields_List p u f r ran (YieldsList-from_range 0 n n e (sub-zero n)) tells ∙ all_list p n

  -- with a test after the chain
  pub all_then : (xs : List ℕ) × (o : Option ℕ) × (j : F) × YieldsThen nat_range_steps s xs o u × FoldsTo (λ p x q. Called g p (x, tt) true q) f xs j × MatchOption o (r ≡ true) (λ x. (r ≡ false) × ((h : F) × Called g j (x, tt) false h))
      → ((x : ℕ) (b : Bool) (q : F) → Called g f (x, tt) b q → (q ≡ f) × (b ≡ p x)) → r ≡ true → {x a : Bool} → x ≡ a → x ≡ and (all_below p n) a
  all_then ran tells h e = and_true (sym (all_passes ran tells) ∙ h) e

  pub all_fails : (xs : List ℕ) × (o : Option ℕ) × (j : F) × YieldsThen nat_range_steps s xs o u × FoldsTo (λ p x q. Called g p (x, tt) true q) f xs j × MatchOption o (r ≡ true) (λ x. (r ≡ false) × ((h : F) × Called g j (x, tt) false h))
      → ((x : ℕ) (b : Bool) (q : F) → Called g f (x, tt) b q → (q ≡ f) × (b ≡ p x)) → r ≡ false → (a : Bool) → r ≡ and (all_below p n) a
  all_fails ran tells h a = h ∙ and_false a (sym (all_passes ran tells) ∙ h)

  pub some_passes : (xs : List ℕ) × (o : Option ℕ) × (j : F) × YieldsThen nat_range_steps s xs o u × FoldsTo (λ p x q. Called g p (x, tt) false q) f xs j × MatchOption o (r ≡ false) (λ x. (r ≡ true) × ((h : F) × Called g j (x, tt) true h))
      → ((x : ℕ) (b : Bool) (q : F) → Called g f (x, tt) b q → (q ≡ f) × (b ≡ p x)) → r ≡ some_below p n
  some_passes ran tells = any_from_yields_List p u f r ran (YieldsList-from_range 0 n n e (sub-zero n)) tells ∙ any_list p n

-- the items of l, where q tells of each place what p tells of the item there
pub items_pass : {F : Type 0} {g : Mut F (Bor ℕ × Unit {0}) Bool} {s : Iter ℕ} (p q : ℕ → Bool) (l : List ℕ) (n : ℕ) (u : Iter ℕ) (f : F) (r : Bool)
    → (xs : List (Bor ℕ)) × (o : Option (Bor ℕ)) × (j : F) × YieldsThen fronts s xs o u × FoldsTo (λ p x q. Called g p (x, tt) true q) f xs j × MatchOption o (r ≡ true) (λ x. (r ≡ false) × ((h : F) × Called g j (x, tt) false h))
    → iter_rest s ≡ l → length l ≡ n → ((k : ℕ) → k < n → p (get_or l k 0) ≡ q k)
    → ((x : Bor ℕ) (b : Bool) (t : F) → Called g f (x, tt) b t → (t ≡ f) × (b ≡ p x.now)) → r ≡ all_below q n
items_pass p q l n u h r ran e d f tells = all_from_yields_List p u h r ran (YieldsList-from_slice l e) tells ∙ all_items p q l n d f
