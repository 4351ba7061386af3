-- Counts: distinct names that are all of live nodes are no more than these, and so an instance that there is no room for, or a file
-- that is too large, leaves no room for a trace within the limits.
use Rattle.std.proofs.Common.{◌≡◌, ◌≤◌, true, List, [], ◌∷◌, map, length, sym, subst, arith}
use Rattle.std.proofs.Common.{inl, inr}
use Rattle.std.specs.Prelude.{is_some}
use Rattle.std.specs.List.Sorted.{IsStrictlySortedBy}
use Rattle.std.proofs.lemmas.List.{length-map}
use Rattle.frp_base.specs.declared.name.Name.{Name}
use Rattle.frp_base.specs.Name.{name_cmp}
use Rattle.frp_base.proofs.Booleans.{both_true}
use Rattle.frp_graph.specs.declared.trace.Node.{Node}
use Rattle.frp_graph.specs.Trace.{node_in}
use Rattle.frp_graph.specs.Births.{Plan}
use Rattle.frp_graph.specs.FirstValues.{are_all_born}
use Rattle.frp_graph.proofs.Options.{some_there}
use Rattle.frp_audit.proofs.Ranks.{In, no_more}
use Rattle.frp_audit.proofs.Apart.{rising_distinct}
use Rattle.frp_audit.proofs.Settled.{named_in}

-- plans that are all born are of names of what is born
pub plans_in : (born : List Node) (ds : List Plan) → are_all_born born ds ≡ true → (n : Name) → In n (map (λ d. d.name) ds) → In n (map (λ x. x.name) born)
plans_in born [] h n i = absurd i
plans_in born (d ∷ ds) h n (inl e) =
    let p = both_true (is_some (node_in born d.name)) (are_all_born born ds) h in
    let x = some_there (node_in born d.name) p.0 in
    subst (λ (m : Name). In m (map (λ x. x.name) born)) (sym e) (named_in born d.name x.0 x.1)
plans_in born (d ∷ ds) h n (inr r) = plans_in born ds (both_true (is_some (node_in born d.name)) (are_all_born born ds) h).1 n r

-- so there are no more of them
pub plans_fit : (born : List Node) (ds : List Plan) → IsStrictlySortedBy name_cmp (map (λ d. d.name) ds) → are_all_born born ds ≡ true → length ds ≤ length born
plans_fit born ds rise all =
    let few = no_more (map (λ d. d.name) ds) (map (λ x. x.name) born) (rising_distinct (map (λ d. d.name) ds) rise) (plans_in born ds all) in
    let l : length (map (λ (d : Plan). d.name) ds) ≡ length ds = length-map ds (λ (d : Plan). d.name) in
    let r : length (map (λ (x : Node). x.name) born) ≡ length born = length-map born (λ (x : Node). x.name) in
    omega arith
