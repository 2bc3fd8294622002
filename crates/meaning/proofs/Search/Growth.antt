-- What a map that keeps every node does to instances and rows. Assumes nothing.
use Rattle.std.proofs.Common.{ℕ, zero, suc, ◌<◌, ◌≡◌, refl, List, [], ◌∷◌, map, Bool, true, false, length, ltb, sym, ap, ◌∙◌, ltb-true, ltb-false, arith, Option, Some}
use mathlib.Core.List.Memᴰ.{cast as mem-cast, head, tail}
use mathlib.Core.List.{Memᴰ as Mem}
use Rattle.meaning.specs.Lists.{map_map}
use Rattle.meaning.specs.Graph.{Graph, node, nodes_of, ids, lookup, WellFormed}
use Rattle.meaning.specs.Pattern.{PNode, var, op, Pattern, Ordered, node_of, root}
use Rattle.meaning.specs.Instance.{inst}
use Rattle.meaning.specs.Program.{vars, asg}
use Rattle.meaning.specs.Compiler.{compile}
use Rattle.meaning.specs.Matching.{matches}
use Rattle.meaning.specs.Search.Order.{Stands, kid_of}
use Rattle.meaning.specs.Search.Rowlaws.{some_all, all_some_lem, row_asg}
use Rattle.meaning.proofs.Laws.Lookup.{reads}
use Rattle.meaning.specs.Laws.Instances.{inst_var, inst_op, inst_out}
use Rattle.meaning.proofs.Search.Theorem.{rows_right, vars_once}

-- each node's image stands in its class's image, and images of classes are classes
pub record Grows (g h : Graph) (φ : ℕ → ℕ) : Type 0 where
  pub nodes : (o : ℕ) (ks : List ℕ) (c : ℕ) → Mem (node o ks) (nodes_of g c) → Mem (node o (map φ ks)) (nodes_of h (φ c))
  pub classes : (c : ℕ) → Mem c (ids g) → Mem (φ c) (ids h)

looked : {g h : Graph} {φ : ℕ → ℕ} → WellFormed g → WellFormed h → Grows g h φ → (o : ℕ) (ks : List ℕ) (c : ℕ) → lookup g o ks ≡ Some c → lookup h o (map φ ks) ≡ Some (φ c)
looked {g} {h} {φ} w u m o ks c e = (reads h u).found o (map φ ks) (φ c) (m.nodes o ks c ((reads g w).listed o ks c e))

images : (φ : ℕ → ℕ) (f h : ℕ → Option ℕ) (cs ks : List ℕ) → ((c k : ℕ) → Mem c cs → f c ≡ Some k → h c ≡ Some (φ k)) → map f cs ≡ map Some ks → map h cs ≡ map Some (map φ ks)
images φ f h [] [] s e = refl
images φ f h [] (k ∷ ks) s e = cc
images φ f h (c ∷ cs) [] s e = cc
images φ f h (c ∷ cs) (k ∷ ks) s e =
    let first : f c ≡ Some k = cc in let rest : map f cs ≡ map Some ks = cc in
    cc (s c k (head refl) first, images φ f h cs ks (λ d j m. s d j (tail m)) rest)

module _ {g h : Graph} {φ : ℕ → ℕ} (w : WellFormed g) (u : WellFormed h) (m : Grows g h φ) {p : Pattern} (o : Ordered p) where
  grown : (σ : ℕ → ℕ) (f n c : ℕ) → n < f → inst g p σ n ≡ Some c → inst h p (λ v. φ (σ v)) n ≡ Some (φ c)
  grown σ zero n c l e = absurd (omega arith)
  grown σ (suc f) n c l e = go (ltb n (length p)) refl (node_of p n) refl (λ d k i s. grown σ f d k i s)
    where
      go : (b : Bool) → ltb n (length p) ≡ b → (x : PNode) → node_of p n ≡ x
          → ((d k : ℕ) → d < f → inst g p σ d ≡ Some k → inst h p (λ v. φ (σ v)) d ≡ Some (φ k)) → inst h p (λ v. φ (σ v)) n ≡ Some (φ c)
      go false i x s ih = cc (inst_out o g σ n (ltb-false n (length p) i))
      go true i (var v) s ih =
          let st : Stands p n (var v) = record { inside = ltb-true n (length p) i; same = s } in
          let k : σ v ≡ c = cc (inst_var o g σ n v st) in
          inst_var o h (λ v. φ (σ v)) n v st ∙ ap (λ z. Some (φ z)) k
      go true i (op a cs) s ih =
          let st : Stands p n (op a cs) = record { inside = ltb-true n (length p) i; same = s } in
          let (ks, t, k) = some_all (map (inst g p σ) cs) (lookup g a) c (sym (inst_op o g σ n a cs st) ∙ e) in
          let low : (d : ℕ) → Mem d cs → d < n = λ d j. o.below n d st.inside (kid_of s j) in
          inst_op o h (λ v. φ (σ v)) n a cs st
          ∙ rw (images φ (inst g p σ) (inst h p (λ v. φ (σ v))) cs ks (λ d k j r. let z = low d j in ih d k (omega arith) r) t) (all_some_lem (map φ ks) (lookup h a))
          ∙ looked w u m a ks c k

  -- DEMAND 3: an instance is kept
  pub grows : (σ : ℕ → ℕ) (n c : ℕ) → inst g p σ n ≡ Some c → inst h p (λ v. φ (σ v)) n ≡ Some (φ c)
  grows σ n c e = grown σ (suc n) n c (omega arith) e

  -- and so is a row
  pub rows_grow : (c : ℕ) → Mem c (ids g) → (r : List ℕ) → Mem r (matches g p c) → Mem (map φ r) (matches h p (φ c))
  rows_grow c k r j =
      let us = vars (compile p).vars in
      let A = rows_right w o c k in
      let e : map (λ v. φ (asg us r v)) us ≡ map φ r = map_map φ (asg us r) us ∙ ap (λ l. map φ l) (row_asg us r (vars_once o) (A.wide r j)) in
      mem-cast (sym e) ((rows_right u o (φ c) (m.classes c k)).complete (λ v. φ (asg us r v)) (grows (asg us r) (root p) c (A.sound r j)))
