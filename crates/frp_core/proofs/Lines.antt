-- The nodes of built lines are those that the file plans, each with the first value that its line gives, and each reads earlier
-- ones.
use Rattle.std.proofs.Common.{◌≡◌, ℕ, ◌+◌, ◌≤◌, true, List, [], ◌∷◌, ◌++◌, length, map, take, Option, Some, None, refl, sym, ap, ◌∙◌, subst, arith, append_assoc}
use Rattle.std.specs.Prelude.{Result, Ok, Err, IfOk}
use Rattle.std.specs.List.{AllByRecursion, list_all}
use Rattle.std.proofs.Math.Seq.{take-append_seam}
use Rattle.std.proofs.lemmas.List.{append-nil, length_push}
use Rattle.frp_base.specs.declared.name.Name.{Name}
use Rattle.frp_base.specs.declared.val.Val.{Val}
use Rattle.frp_base.specs.Name.{declared_name}
use Rattle.frp_base.proofs.Booleans.{both_true}
use Rattle.frp_graph.specs.declared.prog.Prog.{Prog}
use Rattle.frp_graph.specs.declared.prog.Line3.{Line3}
use Rattle.frp_graph.specs.declared.prog.Line3.TheVariants as line
use Rattle.frp_graph.specs.declared.prog.LineShape.{LineShape}
use Rattle.frp_graph.specs.declared.prog.LineShape.TheVariants.{Sink}
use Rattle.frp_graph.specs.declared.trace.Node.{Node}
use Rattle.frp_graph.specs.Trace.{Sight}
use Rattle.frp_graph.specs.Births.{Plan, reference, shape_of, given_by, values_from, plans_from, file_plans}
use Rattle.frp_graph.specs.FirstValues.{first_value, AreBorn}
use Rattle.frp_core.specs.Small.{is_built_shape, is_built_line, is_built, AreSmallFrom}
use Rattle.frp_core.specs.Nodes.{line_node, with_next_reference, line_nodes, AreReady}

-- Each reads earlier nodes.

small_lines : (refs : List Val) (ls : List Line3) → AreReady refs ls → AreSmallFrom (length refs) (line_nodes refs ls)
small_lines refs [] h = tt
small_lines refs (line.Node x shape ∷ ls) h =
    (refl, h.0, subst (λ k. AreSmallFrom k (line_nodes (with_next_reference refs x) ls)) (length_push refs (reference x (declared_name (length refs)))) (small_lines (with_next_reference refs x) ls h.1))
small_lines refs (line.Get c ∷ ls) h = absurd h

pub small : (ls : List Line3) → AreReady [] ls → AreSmallFrom 0 (line_nodes [] ls)
small ls h = small_lines [] ls h

-- They are those that are planned.

-- the node of a plan, with the first value that is given
abbrev pub planned_node : Plan → Node
planned_node d = record { name = d.name; shape = d.shape; ty = d.ty; first = d.given }

-- the references to the nodes of lines of which the first is item k
abbrev refs_from : ℕ → List Line3 → List Val
refs_from k [] = []
refs_from k (line.Node x shape ∷ ls) = reference x (declared_name k) ∷ refs_from (k + 1) ls
refs_from k (line.Get c ∷ ls) = []

abbrev no_values : Name → Option Val
no_values n = None

values_are : (k : ℕ) (refs : List Val) (ls : List Line3) → list_all is_built_line ls ≡ true → values_from declared_name no_values k refs ls ≡ Some (refs ++ refs_from k ls)
values_are k refs [] b = ap Some (sym (append-nil refs))
values_are k refs (line.Node x shape ∷ ls) b =
    values_are (k + 1) (refs ++ reference x (declared_name k) ∷ []) ls (both_true (is_built_shape shape) _ b).1
    ∙ ap Some (append_assoc refs (reference x (declared_name k) ∷ []) (refs_from (k + 1) ls))
values_are k refs (line.Get c ∷ ls) b = absurd cc

-- no loop is built, so that what it is tied to does not count
same_shape : (all refs : List Val) (shape : LineShape) → is_built_shape shape ≡ true → shape_of refs refs shape ≡ shape_of all refs shape
same_shape all refs Sink b = refl
same_shape all refs _ b = cc

planned_lines : (all refs : List Val) (ls : List Line3) → all ≡ refs ++ refs_from (length refs) ls → list_all is_built_line ls ≡ true
    → line_nodes refs ls ≡ map planned_node (plans_from declared_name all (length refs) (length refs) ls)
planned_lines all refs [] e b = refl
planned_lines all refs (line.Node x shape ∷ ls) e b =
    let q = both_true (is_built_shape shape) _ b in
    let r : Val = reference x (declared_name (length refs)) in
    let front : take (length refs) all ≡ refs = ap (take (length refs)) e ∙ take-append_seam refs (refs_from (length refs) (line.Node x shape ∷ ls)) in
    let n : length (with_next_reference refs x) ≡ length refs + 1 = length_push refs r in
    let rest : all ≡ with_next_reference refs x ++ refs_from (length (with_next_reference refs x)) ls = e ∙ sym (append_assoc refs (r ∷ []) (refs_from (length refs + 1) ls)) ∙ ap (λ k. with_next_reference refs x ++ refs_from k ls) (sym n) in
    let here : line_node refs x shape ≡ record { name = declared_name (length refs); shape = shape_of all (take (length refs) all) shape; ty = x; first = given_by (take (length refs) all) shape }
    = λ i. record { name = declared_name (length refs); shape = (same_shape all refs shape q.0 ∙ ap (λ vs. shape_of all vs shape) (sym front)) i; ty = x; first = given_by (sym front i) shape } in
    λ i. here i ∷ (planned_lines all (with_next_reference refs x) ls rest q.1 ∙ ap (λ k. map planned_node (plans_from declared_name all k k ls)) n) i
planned_lines all refs (line.Get c ∷ ls) e b = absurd cc

pub planned : (prog : Prog) → is_built prog ≡ true → line_nodes [] prog.body.lines ≡ map planned_node (file_plans prog)
planned prog b = rw (values_are 0 [] prog.body.lines b) (planned_lines (refs_from 0 prog.body.lines) [] prog.body.lines refl b)

-- a plan of a built line
pub record IsBuiltPlan (d : Plan) : Type 0 where
  pub all : List Val
  pub values : List Val
  pub line : LineShape
  pub built : is_built_shape line ≡ true
  pub shape : d.shape ≡ shape_of all values line
  pub given : d.given ≡ given_by values line

plans_built : (all : List Val) (k n : ℕ) (ls : List Line3) → list_all is_built_line ls ≡ true → AllByRecursion IsBuiltPlan (plans_from declared_name all k n ls)
plans_built all k n [] b = tt
plans_built all k n (line.Node x shape ∷ ls) b =
    let q = both_true (is_built_shape shape) _ b in
    (record { all = all; values = take n all; line = shape; built = q.0; shape = refl; given = refl }, plans_built all (k + 1) (n + 1) ls q.1)
plans_built all k n (line.Get c ∷ ls) b = absurd cc

pub built_plans : (prog : Prog) → is_built prog ≡ true → AllByRecursion IsBuiltPlan (file_plans prog)
built_plans prog b = rw (values_are 0 [] prog.body.lines b) (plans_built (refs_from 0 prog.body.lines) 0 0 prog.body.lines b)

-- They are born: a first value is the one that is given.

module _ (prog : Prog) (w : Sight) where
  same_first : (all vs : List Val) (shape : LineShape) → is_built_shape shape ≡ true → given_by vs shape ≡ first_value prog w (given_by vs shape) (shape_of all vs shape)
  same_first all vs Sink b = refl
  same_first all vs _ b = cc

  born_plans : (ds : List Plan) → AllByRecursion IsBuiltPlan ds → AreBorn prog w ds (map planned_node ds)
  born_plans [] h = tt
  born_plans (d ∷ ds) h =
      let p : IsBuiltPlan d = h.0 in
      let first : d.given ≡ first_value prog w d.given d.shape = p.given ∙ same_first p.all p.values p.line p.built ∙ (λ i. first_value prog w (sym p.given i) (sym p.shape i)) in
      (record { made = record { name = refl; shape = refl; ty = refl }; first = first }, born_plans ds h.1)

  pub born : is_built prog ≡ true → AreBorn prog w (file_plans prog) (line_nodes [] prog.body.lines)
  born b = subst (AreBorn prog w (file_plans prog)) (sym (planned prog b)) (born_plans (file_plans prog) (built_plans prog b))

-- There are no more of them than lines.
pub few_nodes : (refs : List Val) (ls : List Line3) → length (line_nodes refs ls) ≤ length ls
few_nodes refs [] = omega arith
few_nodes refs (line.Node x shape ∷ ls) = let l : length (line_nodes (with_next_reference refs x) ls) ≤ length ls = few_nodes (with_next_reference refs x) ls in omega arith
few_nodes refs (line.Get c ∷ ls) = omega arith

-- what holds of the answer at Ok, from what is known of it
pub if_ok : {T E : Type 0} {P Q : T → Type 0} (r : Result T E) → ((x : T) → P x → Q x) → IfOk r P → IfOk r Q
if_ok (Ok x) f h = f x h
if_ok (Err e) f h = tt
