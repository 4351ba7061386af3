-- The operands of a typed program's lines refer to earlier nodes.
use Rattle.std.proofs.Common.{◌≡◌, ℕ, ◌+◌, true, List, [], ◌∷◌, ◌++◌, length, Some, None, refl, sym, ap, ◌∙◌, zero-add}
use Rattle.std.specs.Prelude.{option_map}
use Rattle.std.specs.List.{list_all}
use Rattle.std.proofs.lemmas.List.{length_push}
use Rattle.frp_base.specs.declared.name.Name.{Name}
use Rattle.frp_base.specs.declared.ty.Ty.{Ty}
use Rattle.frp_base.specs.declared.val.Val.{Val}
use Rattle.frp_base.proofs.Booleans.{both_true, true_both}
use Rattle.frp_base.proofs.Lists.{all_follow, all_back}
use Rattle.frp_expr.proofs.TypeLemmas.{has_some}
use Rattle.frp_expr.proofs.ValueLemmas.{are_more}
use Rattle.frp_graph.specs.declared.prog.Prog.{Prog}
use Rattle.frp_graph.specs.declared.prog.Line3.{Line3}
use Rattle.frp_graph.specs.declared.prog.Line3.TheVariants as line
use Rattle.frp_graph.specs.declared.prog.LineShape.{LineShape}
use Rattle.frp_graph.specs.declared.prog.LineShape.TheVariants as l
use Rattle.frp_graph.specs.declared.trace.Node.{Node}
use Rattle.frp_graph.specs.Trace.{Sight, node_in}
use Rattle.frp_graph.specs.Births.{build, reference, shape_of}
use Rattle.frp_graph.specs.Links.{operands}
use Rattle.frp_graph.specs.TypedProg.{IsTypedProg, sigs, patterns, has_tied_type, all_types, are_typed_lines}
use Rattle.frp_graph.specs.Values.{type_among, are_values}
use Rattle.frp_graph.proofs.Nodes.{found_named, found_more}
use Rattle.frp_graph.proofs.TypedSights.{node_of_type}
use Rattle.frp_graph.proofs.TypedValues.{reference_is, are_stay}
use Rattle.frp_graph.proofs.TypedLines.{line_kind, line_is_allowed}
use Rattle.frp_graph.proofs.TypedTemplates.{file_typed}
use Rattle.frp_core.specs.Small.{is_built_shape, is_built_line, is_built, is_small_shape, IsEarlier, IsSmall, AreSmallFrom}
use Rattle.frp_core.specs.Nodes.{line_node, with_next_reference, AreReady}
use Rattle.frp_core.proofs.SmallShapes.{operands_live}
use Rattle.frp_core.proofs.Found.{found, each_found, small_joined}

-- a built line makes a node of a small shape, and is tied to nothing
pub built_small : (all vs : List Val) (shape : LineShape) → is_small_shape (shape_of all vs shape) ≡ is_built_shape shape
built_small all vs l.Sink = refl
built_small all vs _ = refl

module _ (prog : Prog) where
  untied : (ts : List Ty) (x : Ty) (shape : LineShape) → is_built_shape shape ≡ true → has_tied_type (sigs prog) prog.codes (patterns prog) ts x shape ≡ true
  untied ts x l.Sink b = refl
  untied ts x _ b = cc

  -- what is seen where these nodes are live
  abbrev sight_in : List Node → Sight
  sight_in nodes = record { time = build; node = node_in nodes; occ = λ n. None; pre = λ n. None; above = λ n. None }

  -- what is live among the nodes so far is an earlier node
  earlier : (k : ℕ) (front : List Node) → k ≡ length front → AreSmallFrom 0 front → (n : Name) → (y : Ty) × (type_among (node_in front) n ≡ Some y) → IsEarlier k n
  earlier k front e s n y =
      let z = node_of_type (node_in front n) y.0 y.1 in
      let i = found front n z.0 s z.1 in
      (i.item, (rw e i.before, sym (found_named front n z.0 z.1) ∙ i.named))

  types_stay : (front : List Node) (more : List Node) (n : Name) (y : Ty) → type_among (node_in front) n ≡ Some y → type_among (node_in (front ++ more)) n ≡ Some y
  types_stay front more n y e =
      let z = node_of_type (node_in front n) y e in
      ap (option_map (λ (z : Node). z.ty)) (found_more front more n z.0 z.1) ∙ ap Some z.2

  lines_ready : (tied ts : List Ty) (made : List ℕ) (front : List Node) (refs : List Val) (ls : List Line3) → length refs ≡ length front → AreSmallFrom 0 front → are_values prog (node_in front) refs ts ≡ true
      → are_typed_lines (sigs prog) prog.codes (patterns prog) tied ts made ls ≡ true → list_all is_built_line ls ≡ true → AreReady refs ls
  lines_ready tied ts made front refs [] n s a p b = tt
  lines_ready tied ts made front refs (line.Node x shape ∷ ls) n s a p b =
      let q = both_true _ _ p in
      let r = both_true (is_built_shape shape) _ b in
      let has = (both_true _ _ q.0).0 in
      let built : is_small_shape (shape_of refs refs shape) ≡ true = built_small refs refs shape ∙ r.0 in
      let allowed = (line_is_allowed prog (sight_in front) refs refs ts ts a a x shape (true_both _ _ has (untied ts x shape r.0))).allowed in
      let live = operands_live prog (sight_in front) x (shape_of refs refs shape) built allowed in
      let here : IsSmall (length refs) (shape_of refs refs shape) = (built, all_follow _ (IsEarlier (length refs)) (earlier (length refs) front n s) (operands (shape_of refs refs shape)) live) in
      let y : Node = line_node refs x shape in
      let all : List Node = front ++ y ∷ [] in
      let small : AreSmallFrom 0 all = small_joined 0 (length refs) front y (n ∙ sym (zero-add (length front))) s refl here in
      let last : type_among (node_in all) y.name ≡ Some x = ap (option_map (λ (z : Node). z.ty)) (all_back (λ z. node_in all z.name ≡ Some z) front (y ∷ []) (each_found 0 all small)).0 in
      let among = are_more (type_among (node_in all)) (sigs prog) refs ts (reference x y.name) x
      (are_stay (sigs prog) (type_among (node_in front)) (type_among (node_in all)) (types_stay front (y ∷ [])) refs ts a)
      (reference_is (type_among (node_in all)) (sigs prog) x y.name (line_kind prog (patterns prog) ts x shape (has_some x _ has)) last) in
      let lengths : length (with_next_reference refs x) ≡ length all = length_push refs (reference x y.name) ∙ ap (λ k. k + 1) n ∙ sym (length_push front y) in
      (here, lines_ready tied (ts ++ x ∷ []) (made ++ length ts ∷ []) all (with_next_reference refs x) ls lengths small among q.1 r.1)
  lines_ready tied ts made front refs (line.Get c ∷ ls) n s a p b = absurd cc

  -- the lines of a typed program that is built are ready
  pub ready : IsTypedProg prog → is_built prog ≡ true → AreReady [] prog.body.lines
  ready typed b = lines_ready (all_types (sigs prog) prog.codes (patterns prog) [] prog.body.lines) [] [] [] [] prog.body.lines refl tt refl (file_typed prog typed) b
