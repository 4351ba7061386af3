-- What is sent to a sink, one value or several that its combining expression makes one, is of its type among the older nodes.
use Rattle.std.proofs.Common.{◌≡◌, ℕ, zero, suc, ◌+◌, Bool, true, false, List, [], ◌∷◌, map, filter, Option, Some, None, refl, sym, ap, ◌∙◌, subst, arith}
use Rattle.std.proofs.Common.{inl, inr}
use Rattle.std.specs.Prelude.{slice_get, option_map, if◌then◌else◌}
use Rattle.std.specs.List.{AllByRecursion, list_all}
use Rattle.std.proofs.lemmas.Option.{same_Some}
use Rattle.frp_base.specs.declared.name.Name.{Name}
use Rattle.frp_base.specs.declared.time.Time.{Time}
use Rattle.frp_base.specs.declared.ty.Ty.{Ty}
use Rattle.frp_base.specs.declared.ty.Ty.TheVariants as t
use Rattle.frp_base.specs.declared.val.Val.{Val}
use Rattle.frp_base.specs.Time.{time_eq}
use Rattle.frp_base.specs.Name.{name_eq, declared_name, maker, item_of}
use Rattle.frp_base.proofs.Booleans.{both_true, chosen, is_false}
use Rattle.frp_expr.specs.Typing.{◌>>=◌, type_in}
use Rattle.frp_expr.proofs.TypeLemmas.{has_some}
use Rattle.frp_graph.specs.declared.prog.Prog.{Prog}
use Rattle.frp_graph.specs.declared.prog.Joint.{Joint}
use Rattle.frp_graph.specs.declared.prog.Line3.{Line3}
use Rattle.frp_graph.specs.declared.prog.Line3.TheVariants as line
use Rattle.frp_graph.specs.declared.prog.LineShape.{LineShape}
use Rattle.frp_graph.specs.declared.trace.Node.{Node}
use Rattle.frp_graph.specs.declared.trace.Sent.{Sent}
use Rattle.frp_graph.specs.Trace.{Sight}
use Rattle.frp_graph.specs.Applied.{call}
use Rattle.frp_graph.specs.Births.{Plan, values_from, plans_from, file_plans, plan_in}
use Rattle.frp_graph.specs.Roles.{line_role, is_input_line}
use Rattle.frp_graph.specs.Sends.{join_in, join_of, is_sent_to, sent_values, folded, combined, sent_in}
use Rattle.frp_graph.specs.TypedProg.{IsTypedProg, sigs, stream_item, is_node_line, sent_type, is_typed_join}
use Rattle.frp_graph.specs.Values.{type_among, is_value}
use Rattle.frp_graph.specs.WellFormed.{Returns}
use Rattle.frp_graph.proofs.Lists.{name_same, name_eq-same}
use Rattle.frp_graph.proofs.Options.{test_some}
use Rattle.frp_graph.proofs.TypedValues.{stream_from, stream_holds, stream_fits, two_are}
use Rattle.frp_graph.proofs.TypedCalls.{call_fits}
use Rattle.frp_graph.proofs.TypedSights.{Fits}

-- The file's plans: of lines that all make nodes, the plan of item i has the type of line i.

module _ (all : List Val) where
  type_of_item : (k n i : ℕ) (ls : List Line3) (x : Ty) (shape : LineShape) (d : Plan) → list_all is_node_line ls ≡ true → slice_get ls i ≡ Some (line.Node x shape)
      → plan_in (plans_from declared_name all k n ls) (declared_name (k + i)) ≡ Some d → d.ty ≡ x
  type_of_item k n i [] x shape d h g e = absurd cc
  type_of_item k n zero (line.Node y s ∷ ls) x shape d h g e =
      let same : k ≡ k + 0 = omega arith in
      let here : name_eq (declared_name k) (declared_name (k + 0)) ≡ true = subst (λ m. name_eq (declared_name k) (declared_name m) ≡ true) same (name_eq-same (declared_name k)) in
      let plan = ap (option_map (λ (c : Plan). c.ty)) (rw here at e) in
      let ty : y ≡ d.ty = same_Some y d.ty plan in
      let line : y ≡ x = cc in
      sym ty ∙ line
  type_of_item k n (suc i) (line.Node y s ∷ ls) x shape d h g e =
      let apart : name_eq (declared_name k) (declared_name (k + suc i)) ≡ false
      = is_false (name_eq (declared_name k) (declared_name (k + suc i))) (λ t. let q : k ≡ k + suc i = ap item_of (name_same (declared_name k) (declared_name (k + suc i)) t) in omega arith) in
      let later : plan_in (plans_from declared_name all (k + 1) (n + 1) ls) (declared_name (k + suc i)) ≡ Some d = rw apart at e in
      let next : k + suc i ≡ k + 1 + i = omega arith in
      type_of_item (k + 1) (n + 1) i ls x shape d h g (subst (λ m. plan_in (plans_from declared_name all (k + 1) (n + 1) ls) (declared_name m) ≡ Some d) next later)
  type_of_item k n i (line.Get c ∷ ls) x shape d h g e = absurd cc

file_type : (prog : Prog) (i : ℕ) (x : Ty) (shape : LineShape) (d : Plan) → IsTypedProg prog → slice_get prog.body.lines i ≡ Some (line.Node x shape)
    → plan_in (file_plans prog) (declared_name i) ≡ Some d → d.ty ≡ x
file_type prog i x shape d typed g = by (values_from declared_name (λ n. None) 0 [] prog.body.lines) refl where
  by : (o : Option (List Val)) → values_from declared_name (λ n. None) 0 [] prog.body.lines ≡ o → plan_in (file_plans prog) (declared_name i) ≡ Some d → d.ty ≡ x
  by None e = rw e (λ h. absurd cc)
  by (Some all) e = rw e (λ h.
      let zeroth : i ≡ 0 + i = omega arith in
      type_of_item all 0 0 i prog.body.lines x shape d typed.nodes_only g (subst (λ m. plan_in (plans_from declared_name all 0 0 prog.body.lines) (declared_name m) ≡ Some d) zeroth h))

-- A combining expression of a sink.

joined : (q : Joint → Bool) (js : List Joint) (n : Name) (code : ℕ) → join_in js n ≡ Some code → list_all q js ≡ true
    → (j : Joint) × (declared_name j.item ≡ n) × (j.code ≡ code) × (q j ≡ true)
joined q [] n code e h = absurd cc
joined q (j ∷ js) n code e h =
    let both = both_true (q j) (list_all q js) h in
    elim (chosen (name_eq (declared_name j.item) n) j.code code (join_in js n) e) [
      | inl f ↦ (j, name_same (declared_name j.item) n f.0, f.1, both.0)
      | inr r ↦ joined q js n code r.1 both.1
    ]

input_of : (o : Option Line3) (a : Ty) → sent_type o ≡ Some a → (x : Ty) × (shape : LineShape) × (o ≡ Some (line.Node x shape)) × (stream_item x ≡ Some a)
input_of None a h = absurd cc
input_of (Some (line.Get c)) a h = absurd cc
input_of (Some (line.Node x shape)) a h = (x, shape, refl, (test_some (is_input_line (line_role shape)) (stream_item x) a h).1)

join_type : (prog : Prog) (j : Joint) → is_typed_join prog j ≡ true
    → (a : Ty) × (sent_type (slice_get prog.body.lines j.item) ≡ Some a) × ((slice_get prog.codes j.code >>= λ e. type_in (sigs prog) e (a ∷ a ∷ [])) ≡ Some a)
join_type prog j = by (sent_type (slice_get prog.body.lines j.item)) refl where
  by : (o : Option Ty) → sent_type (slice_get prog.body.lines j.item) ≡ o → is_typed_join prog j ≡ true
      → (a : Ty) × (sent_type (slice_get prog.body.lines j.item) ≡ Some a) × ((slice_get prog.codes j.code >>= λ e. type_in (sigs prog) e (a ∷ a ∷ [])) ≡ Some a)
  by None e = rw e (λ h. absurd cc)
  by (Some a) e = rw e (λ h. (a, refl, has_some a (slice_get prog.codes j.code >>= λ e. type_in (sigs prog) e (a ∷ a ∷ [])) h))

module _ (prog : Prog) (typed : IsTypedProg prog) (old : Sight)
    (of_file : (n : Name) (x : Node) → old.node n ≡ Some x → maker n ≡ None → (d : Plan) × (plan_in (file_plans prog) n ≡ Some d) × (x.ty ≡ d.ty)) where
  -- a value that a live node can be sent
  abbrev pub IsTaken : Name → Val → Type 0
  IsTaken n v = (x : Node) × (old.node n ≡ Some x) × Fits prog old x.ty v

  module _ (a : Ty) (code : ℕ) (gives : (slice_get prog.codes code >>= λ e. type_in (sigs prog) e (a ∷ a ∷ [])) ≡ Some a) where
    folded_fits : (v : Val) (vs : List Val) → is_value prog old.node v a ≡ true → AllByRecursion (λ u. is_value prog old.node u a ≡ true) vs → is_value prog old.node (folded prog code v vs) a ≡ true
    folded_fits v [] h f = h
    folded_fits v (u ∷ vs) h f =
        let returns : Returns prog old (record { code = code; kept = [] }) (a ∷ a ∷ []) a = record { kept = []; kept_fit = refl; typed = gives } in
        let one = call_fits prog old (record { code = code; kept = [] }) (v ∷ u ∷ []) (a ∷ a ∷ []) a returns (two_are (type_among old.node) (sigs prog) v u a a h f.0) in
        folded_fits (call prog (record { code = code; kept = [] }) (v ∷ u ∷ [])) vs one f.1

  -- the type of a sink that has a combining expression
  sink_type : (n : Name) (x : Node) (code : ℕ) → old.node n ≡ Some x → join_of prog n ≡ Some code
      → (a : Ty) × (x.ty ≡ t.Stream a) × ((slice_get prog.codes code >>= λ e. type_in (sigs prog) e (a ∷ a ∷ [])) ≡ Some a)
  sink_type n x code live e =
      let j = joined (is_typed_join prog) prog.joins n code e (both_true _ _ typed.joins).0 in
      let a = join_type prog j.0 j.3 in
      let l = input_of (slice_get prog.body.lines j.0.item) a.0 a.1 in
      let none : maker n ≡ None = subst (λ (m : Name). maker m ≡ None) j.1 refl in
      let d = of_file n x live none in
      let plan : plan_in (file_plans prog) (declared_name j.0.item) ≡ Some d.0 = ap (plan_in (file_plans prog)) j.1 ∙ d.1 in
      let ty : d.0.ty ≡ l.0 = file_type prog j.0.item l.0 l.1 d.0 typed l.2 plan in
      (a.0, d.2 ∙ ty ∙ stream_from l.0 a.0 l.3, subst (λ (c : ℕ). (slice_get prog.codes c >>= λ e. type_in (sigs prog) e (a.0 ∷ a.0 ∷ [])) ≡ Some a.0) j.2 a.2)

  of_type : (n : Name) (x : Node) (a : Ty) (v : Val) → old.node n ≡ Some x → x.ty ≡ t.Stream a → IsTaken n v → is_value prog old.node v a ≡ true
  of_type n x a v live e h =
      let both : ◌≡◌ {A = Option Node} (Some h.0) (Some x) = sym h.1 ∙ live in
      let same : h.0 ≡ x = cc in
      sym (stream_holds prog old.node a v) ∙ subst (λ (y : Ty). Fits prog old y v) (ap (λ (z : Node). z.ty) same ∙ e) h.2

  all_of_type : (n : Name) (x : Node) (a : Ty) (vs : List Val) → old.node n ≡ Some x → x.ty ≡ t.Stream a → AllByRecursion (IsTaken n) vs → AllByRecursion (λ v. is_value prog old.node v a ≡ true) vs
  all_of_type n x a [] live e h = tt
  all_of_type n x a (v ∷ vs) live e h = (of_type n x a v live e h.0, all_of_type n x a vs live e h.1)

  combined_taken : (n : Name) (o : Option ℕ) (vs : List Val) (v : Val) → join_of prog n ≡ o → AllByRecursion (IsTaken n) vs → combined prog o vs ≡ Some v → IsTaken n v
  combined_taken n o [] v j h e = absurd cc
  combined_taken n o (u ∷ []) v j h e = let same : u ≡ v = cc in subst (λ (v : Val). IsTaken n v) same h.0
  combined_taken n None (u ∷ w ∷ vs) v j h e = absurd cc
  combined_taken n (Some code) (u ∷ w ∷ vs) v j h e =
      let x = h.0.0 in
      let a = sink_type n x code h.0.1 j in
      let fits = folded_fits a.0 code a.2 u (w ∷ vs) (of_type n x a.0 u h.0.1 a.1 h.0) (all_of_type n x a.0 (w ∷ vs) h.0.1 a.1 h.1) in
      let same : folded prog code u (w ∷ vs) ≡ v = cc in
      (x, h.0.1, stream_fits prog old.node a.0 x.ty v a.1 (subst (λ (v : Val). is_value prog old.node v a.0 ≡ true) same fits))

  module _ (t : Time) where
    values_taken : (n : Name) (sends : List Sent) → AllByRecursion (λ s. time_eq t (s.place ∷ []) ≡ true → IsTaken s.sink s.value) sends → AllByRecursion (IsTaken n) (sent_values sends t n)
    values_taken n [] h = tt
    values_taken n (s ∷ sends) h = by (is_sent_to t n s) refl (values_taken n sends h.1) where
      by : (b : Bool) → is_sent_to t n s ≡ b → AllByRecursion (IsTaken n) (sent_values sends t n)
          → AllByRecursion (IsTaken n) (map (λ s. s.value) (if b then s ∷ filter (is_sent_to t n) sends else filter (is_sent_to t n) sends))
      by true e r = let p = both_true _ _ e in (subst (λ (n : Name). IsTaken n s.value) (name_same s.sink n p.1) (h.0 p.0), r)
      by false e r = r

    -- what is sent to a node then is of its type
    pub sent_taken : (sends : List Sent) → AllByRecursion (λ s. time_eq t (s.place ∷ []) ≡ true → IsTaken s.sink s.value) sends
        → (n : Name) (v : Val) → sent_in prog sends t n ≡ Some v → (x : Node) × (old.node n ≡ Some x) × Fits prog old x.ty v
    sent_taken sends h n v e = combined_taken n (join_of prog n) (sent_values sends t n) v refl (values_taken n sends h) e
