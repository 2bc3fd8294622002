use Rattle.std.proofs.Common.{ℕ, ◌≡◌, ◌∙◌, ap, refl, rules, tests, Bor, List, [], ◌∷◌, Bool, true, false, cond, nat_eq, Option, None, Some}
use Rattle.std.specs.List.{find}
use Rattle.std.specs.Option.{option_map, MatchOption, IsSomeAnd}
use Rattle.std.proofs.lemmas.Iterator.{YieldsList-from_slice}
use Rattle.std.proofs.lemmas.Iterator.Search.{find_from_yields_List}
use Rattle.meaning.specs.declared.Reg.{Reg}
use Rattle.meaning.specs.Compiler.{reg_of}
use Rattle.compiler.specs.declared.vars.Bound.{Bound}
use Rattle.compiler.specs.Lists.{helds_of}
use Rattle.compiler.proofs.vars.reg_of.Goals as goal

-- the first binding's register, as a search
first_bound : (a : List Bound) (v : ℕ) → option_map (λ b. b.reg) (find (λ b. nat_eq b.var v) a) ≡ reg_of (helds_of a) v
unfolding reg_of
first_bound [] v = refl
first_bound (b ∷ a) v = go (nat_eq b.var v) (first_bound a v)
  where
    go : (t : Bool) → option_map (λ x. x.reg) (find (λ x. nat_eq x.var v) a) ≡ reg_of (helds_of a) v → option_map (λ x. x.reg) (cond t (Some b) (find (λ x. nat_eq x.var v) a)) ≡ cond t (Some b.reg) (reg_of (helds_of a) v)
    go true e = refl
    go false e = e

mapped : (o : Option (Bor Bound)) (r : Option Reg) (P : Bor Bound → Reg → Type 0) → MatchOption o (r ≡ None) (λ x. IsSomeAnd r (P x)) → ((x : Bor Bound) (z : Reg) → P x z → z ≡ x.now.reg) → r ≡ option_map (λ b. b.reg) (option_map (λ x. x.now) o)
mapped None r P e f = e
mapped (Some x) None P m f = absurd m
mapped (Some x) (Some z) P m f = ap Some (f x z m)

pub returns : goal.returns
returns c =
    mapped c.find.result c.map.result _ c.map.ensures.cases (λ x z q. search rules)
    ∙ ap (option_map (λ b. b.reg)) (find_from_yields_List (λ b. nat_eq b.var c.args.v) _ _ c.find.result c.find.ensures.ran (YieldsList-from_slice c.args.vars.now cc) (λ x b q k. search (rules, tests)))
    ∙ first_bound c.args.vars.now c.args.v
