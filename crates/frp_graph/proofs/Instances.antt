-- Instances: one that is there stays where more values before are there, and how many nodes the lines of a body make.
use Rattle.std.proofs.Common.{◌≡◌, ℕ, ◌+◌, ◌≤◌, List, [], ◌∷◌, ◌++◌, length, Option, Some, None, refl, ◌∙◌, arith}
use Rattle.std.specs.Prelude.{slice_get}
use Rattle.frp_base.specs.declared.name.Name.{Name}
use Rattle.frp_base.specs.declared.val.Val.{Val}
use Rattle.frp_base.specs.Name.{declared_name, made_name}
use Rattle.frp_expr.proofs.TypeLemmas.{bind_some}
use Rattle.frp_graph.specs.declared.prog.Line3.{Line3}
use Rattle.frp_graph.specs.declared.prog.Line3.TheVariants.{Node, Get}
use Rattle.frp_graph.specs.Births.{reference, node_of, values_from, plans_from, size_of}
use Rattle.frp_graph.specs.ShapeLaws.{Stays, InstancesStay, FilesAreWhole}
use Rattle.frp_graph.proofs.Options.{then_some}

-- Where more values before are there.

module _ (name : ℕ → Name) (few many : Name → Option Val) (stays : Stays few many) where
  values_stay : (ls : List Line3) (k : ℕ) (vs all : List Val) → values_from name few k vs ls ≡ Some all
      → values_from name many k vs ls ≡ Some all
  values_stay [] k vs all h = h
  values_stay (Node x shape ∷ ls) k vs all h = values_stay ls (k + 1) (vs ++ reference x (name k) ∷ []) all h
  values_stay (Get c ∷ ls) k vs all h =
      let got = then_some (λ a. values_from name few k (vs ++ a ∷ []) ls) (few (node_of vs c)) all h in
      rw (stays (node_of vs c) got.0 got.1) (values_stay ls k (vs ++ got.0 ∷ []) all got.2)

pub instances_stay : InstancesStay
instances_stay prog w u n template kept a i time stays h =
    let body = bind_some (slice_get prog.templates template) _ i h in
    let all = bind_some (values_from (made_name n w.time) w.pre 0 (a ∷ kept) body.0.lines) _ i body.2 in
    rw (body.1, time, values_stay _ w.pre u.pre stays body.0.lines 0 (a ∷ kept) all.0 all.1) all.2

-- How many nodes lines make.

module _ (name : ℕ → Name) where
  pub plans_size : (all : List Val) (k n : ℕ) (ls : List Line3) → length (plans_from name all k n ls) ≡ size_of ls
  plans_size all k n [] = refl
  plans_size all k n (Node x shape ∷ ls) = let more = plans_size all (k + 1) (n + 1) ls in omega arith
  plans_size all k n (Get c ∷ ls) = plans_size all k (n + 1) ls

size_within : (ls : List Line3) → size_of ls ≤ length ls
size_within [] = omega arith
size_within (Node x shape ∷ ls) = let more = size_within ls in omega arith
size_within (Get c ∷ ls) = let more = size_within ls in omega arith

-- lines that all make nodes have their values, whatever there is before
whole_values : (name : ℕ → Name) (pre : Name → Option Val) (ls : List Line3) (k : ℕ) (vs : List Val)
    → size_of ls ≡ length ls
    → (all : List Val) × (values_from name pre k vs ls ≡ Some all)
whole_values name pre [] k vs h = (vs, refl)
whole_values name pre (Node x shape ∷ ls) k vs h =
    whole_values name pre ls (k + 1) (vs ++ reference x (name k) ∷ []) (omega arith)
whole_values name pre (Get c ∷ ls) k vs h = let few = size_within ls in absurd (omega arith)

pub files_are_whole : FilesAreWhole
files_are_whole prog h =
    let all = whole_values declared_name (λ n. None) prog.body.lines 0 [] h in
    rw all.1 (plans_size declared_name all.0 0 0 prog.body.lines ∙ h)
