-- What a row reads in a sight is there in a well-formed part of it too: what is got, and what a shape reads, are cells of the part.
use Rattle.std.proofs.Common.{◌≡◌, ℕ, ◌+◌, ◌<◌, Bool, true, false, List, [], ◌∷◌, ◌++◌, length, Option, Some, None, refl, sym, ap, ◌∙◌, subst, arith}
use Rattle.std.specs.Prelude.{◌&&◌, ◌||◌, ◌==◌, not, nat_lt, is_some, slice_get}
use Rattle.std.specs.Option.{option_to_list}
use Rattle.std.specs.List.{AllByRecursion, list_any, list_all}
use Rattle.std.specs.Cmp.{unsigned_Decides}
use Rattle.std.proofs.lemmas.Bool.{not-true}
use Rattle.std.proofs.lemmas.List.Folds.{list_any-append}
use Rattle.std.proofs.lemmas.Grind.{common_steps}
use Rattle.frp_base.specs.declared.name.Name.{Name}
use Rattle.frp_base.specs.declared.ty.Ty.{Ty}
use Rattle.frp_base.specs.declared.ty.Ty.TheVariants as t
use Rattle.frp_base.specs.declared.val.Val.{Val}
use Rattle.frp_base.specs.Name.{made_name}
use Rattle.frp_base.proofs.Booleans.{both_true, true_both, or_true}
use Rattle.frp_expr.specs.declared.expr.Expr.{Expr}
use Rattle.frp_expr.specs.Eval.{eval}
use Rattle.frp_expr.specs.Typing.{◌>>=◌, type_in}
use Rattle.frp_expr.specs.Uses.{uses}
use Rattle.frp_expr.proofs.TypeLemmas.{bind_some}
use Rattle.frp_graph.specs.declared.prog.Body.{Body}
use Rattle.frp_graph.specs.declared.prog.Prog.{Prog}
use Rattle.frp_graph.specs.declared.prog.Line3.{Line3}
use Rattle.frp_graph.specs.declared.prog.Line3.TheVariants.{Node, Get}
use Rattle.frp_graph.specs.declared.shape.Shape.{Shape}
use Rattle.frp_graph.specs.declared.shape.Shape.TheVariants.{Snapshot, Value, Apply, Switchs, Switchc, Execute}
use Rattle.frp_graph.specs.declared.trace.Node as trace
use Rattle.frp_graph.specs.Trace.{Sight, post_in}
use Rattle.frp_graph.specs.Applied.{target}
use Rattle.frp_graph.specs.Births.{Instance, reference, node_of, values_from, instance}
use Rattle.frp_graph.specs.Evidence.{has_reads}
use Rattle.frp_graph.specs.Links.{targets, during_links}
use Rattle.frp_graph.specs.TypedProg.{Pattern, sigs, patterns, cell_item, is_cell, all_types, are_typed_lines, given_types}
use Rattle.frp_graph.specs.Values.{type_among, is_value, are_values}
use Rattle.frp_graph.specs.WellFormed.{Allows, IsWellFormed}
use Rattle.frp_graph.proofs.Options.{some_there, then_some, then_is}
use Rattle.frp_graph.proofs.Templates.{IsTemplate, template_at}
use Rattle.frp_graph.proofs.TypedUses.{AreWhere, where_all, where_fewer, where_more, used_is_typed}
use Rattle.frp_graph.proofs.TypedValues.{cell_from, cell_is, cell_type, refers}
use Rattle.frp_graph.proofs.TypedSights.{stream_occ, cell_before, cell_after}
use Rattle.frp_audit.proofs.Seen.{seen, type_shown}
use Rattle.frp_audit.proofs.Sides.{holds, cell_holds}

-- The positions of the nodes that a body makes, and the others.

abbrev is_other : List ℕ → ℕ → Bool
is_other made i = not (list_any (λ j. i == j) made)

neither : (a b : Bool) → not (a || (b || false)) ≡ true → (not a ≡ true) × (b ≡ false)
neither true b h = absurd cc
neither false true h = absurd cc
neither false false h = (refl, refl)

-- where one more is made
other_than : (made : List ℕ) (m i : ℕ) → is_other (made ++ m ∷ []) i ≡ true → (is_other made i ≡ true) × ((i == m) ≡ false)
other_than made m i h = neither _ _ (sym (ap not (list_any-append (λ j. i == j) made (m ∷ []))) ∙ h)

not_itself : (made : List ℕ) (m : ℕ) → is_other (made ++ m ∷ []) m ≡ true → ⊥
not_itself made m h =
    let differs : (m == m) ≡ false = (other_than made m m h).1 in
    let same : (m == m) ≡ true = (unsigned_Decides m m).1 refl in
    cc

none_passes : (p q : ℕ → Bool) → ((i : ℕ) → p i ≡ false → q i ≡ true) → (is : List ℕ) → list_any p is ≡ false → list_all q is ≡ true
none_passes p q f [] h = refl
none_passes p q f (i ∷ is) h = by (p i) refl h (none_passes p q f is) where
  by : (b : Bool) → p i ≡ b → b || list_any p is ≡ false → (list_any p is ≡ false → list_all q is ≡ true) → q i && list_all q is ≡ true
  by true e k more = absurd cc
  by false e k more = true_both _ _ (f i e) (more k)

module _ (prog : Prog) (w : Sight) (shown fired : Name → Bool) (formed : IsWellFormed prog (seen w shown (holds w) fired)) where
  abbrev part : Sight
  part = seen w shown (holds w) fired

  -- a value before of a cell of the part
  pub pre_same : (c : Name) (a : Ty) → type_among part.node c ≡ Some (t.Cell a) → part.pre c ≡ w.pre c
  pre_same c a h =
      let s = type_shown w shown (holds w) fired c (t.Cell a) h in
      let held : holds w c ≡ true = cell_holds w c s.1 s.2 (ap is_cell s.3 ∙ cell_is a) in
      rw (s.0, held) refl

  -- Bodies.

  abbrev Are : List ℕ → List Val → List Ty → Type 0
  Are made vs ts = AreWhere (type_among part.node) (sigs prog) (is_other made) vs ts

  -- what is got is of a cell of the part: its operand uses no node that the body makes
  got_cell : (made : List ℕ) (vs : List Val) (ts : List Ty) (c : Expr) (a : Ty) → Are made vs ts → (type_in (sigs prog) c ts >>= cell_item) ≡ Some a
      → list_any (λ i. list_any (λ j. i == j) made) (uses (length ts) c) ≡ false
      → type_among part.node (node_of vs c) ≡ Some (t.Cell a)
  got_cell made vs ts c a h e none =
      let x = bind_some (type_in (sigs prog) c ts) cell_item a e in
      let are = where_fewer (type_among part.node) (sigs prog) (is_other made) clean vs ts fewer h in
      let typed = used_is_typed (type_among part.node) (sigs prog) (length ts) clean past c vs ts x.0 used are x.1 in
      let cell : is_value prog part.node (eval c vs) (t.Cell a) ≡ true = rw (cell_from x.0 a x.2) at typed in
      refers (type_among part.node) (sigs prog) (eval c vs) (t.Cell a) (cell_type (t.Cell a) (cell_is a)) cell
    where
      clean : ℕ → Bool
      clean i = not (nat_lt i (length ts)) || is_other made i

      past : (i : ℕ) → nat_lt i (length ts) ≡ false → clean i ≡ true
      past i e = rw e refl

      fewer : (i : ℕ) → i < length ts → clean i ≡ true → is_other made i ≡ true
      fewer i l c = let within : nat_lt i (length ts) ≡ true = grind (arith, common_steps) in rw within at c

      passes : (i : ℕ) → list_any (λ j. i == j) made ≡ false → clean i ≡ true
      passes i e = rw e (or_true (not (nat_lt i (length ts))))

      used : list_all clean (uses (length ts) c) ≡ true
      used = none_passes (λ i. list_any (λ j. i == j) made) clean passes (uses (length ts) c) none

  with_made : (made : List ℕ) (vs : List Val) (ts : List Ty) (v : Val) (x : Ty) → Are made vs ts → Are (made ++ length ts ∷ []) (vs ++ v ∷ []) (ts ++ x ∷ [])
  with_made made vs ts v x h =
      let others : ℕ → Bool = is_other (made ++ length ts ∷ []) in
      let fewer : AreWhere (type_among part.node) (sigs prog) others vs ts =
      where_fewer (type_among part.node) (sigs prog) (is_other made) others vs ts (λ i l c. (other_than made _ i c).0) h in
      where_more (type_among part.node) (sigs prog) others vs ts v x fewer (λ c. absurd (not_itself made (length ts) c))

  module _ (name : ℕ → Name) (earlier : List Pattern) (types : List Ty) (all : List Val) where
    values_back : (ls : List Line3) (k : ℕ) (vs : List Val) (ts : List Ty) (made : List ℕ) → Are made vs ts
        → are_typed_lines (sigs prog) prog.codes earlier types ts made ls ≡ true
        → values_from name w.pre k vs ls ≡ Some all → values_from name part.pre k vs ls ≡ Some all
    values_back [] k vs ts made h p e = e
    values_back (Node x shape ∷ ls) k vs ts made h p e =
        let v : Val = reference x (name k) in
        values_back ls (k + 1) (vs ++ v ∷ []) (ts ++ x ∷ []) (made ++ length ts ∷ []) (with_made made vs ts v x h) (both_true _ _ p).1 e
    values_back (Get c ∷ ls) k vs ts made h p e =
        let parts = both_true _ _ p in
        let here = both_true _ _ parts.0 in
        let a = some_there (type_in (sigs prog) c ts >>= cell_item) here.0 in
        let cell = got_cell made vs ts c a.0 h a.1 (not-true _ here.1) in
        let y = then_some (λ y. values_from name w.pre k (vs ++ y ∷ []) ls) (w.pre (node_of vs c)) all e in
        let before : part.pre (node_of vs c) ≡ Some y.0 = pre_same (node_of vs c) a.0 cell ∙ y.1 in
        let fits = cell_before prog part formed (node_of vs c) a.0 y.0 cell before in
        let more = where_more (type_among part.node) (sigs prog) (is_other made) vs ts y.0 a.0 h (λ c. fits) in
        let lines : are_typed_lines (sigs prog) prog.codes earlier types (ts ++ a.0 ∷ []) made ls ≡ true = rw a.1 at parts.1 in
        then_is (λ y. values_from name part.pre k (vs ++ y ∷ []) ls) (part.pre (node_of vs c)) y.0 all before
        (values_back ls k (vs ++ y.0 ∷ []) (ts ++ a.0 ∷ []) made more lines y.2)

  -- an instance that the whole sight has
  instance_back : (n : Name) (template : ℕ) (kept : List Val) (v : Val) (d : Pattern) (i : Instance) → slice_get (patterns prog) template ≡ Some d
      → is_value prog part.node v d.param ≡ true → are_values prog part.node kept d.kept ≡ true
      → instance prog w n template kept v ≡ Some i → instance prog part n template kept v ≡ Some i
  instance_back n template kept v d i e h k made =
      let found = template_at prog template d formed.program e in
      let body = bind_some (slice_get prog.templates template) _ i made in
      let both : Some found.0 ≡ Some body.0 = sym found.1 ∙ body.1 in
      let same : found.0 ≡ body.0 = cc in
      let typed : IsTemplate (sigs prog) prog.codes body.0 d = subst (λ (b : Body). IsTemplate (sigs prog) prog.codes b d) same found.2 in
      let ts : List Ty = given_types (sigs prog) prog.codes typed.earlier body.0 in
      let given : ts ≡ d.param ∷ d.kept = λ i. option_to_list (typed.param i) ++ typed.kept i in
      let fit : are_values prog part.node (v ∷ kept) (d.param ∷ d.kept) ≡ true = true_both _ _ h k in
      let all_fit : are_values prog part.node (v ∷ kept) ts ≡ true = rw given fit in
      let are : Are [] (v ∷ kept) ts = where_all (type_among part.node) (sigs prog) (is_other []) (v ∷ kept) ts all_fit in
      let types : List Ty = all_types (sigs prog) prog.codes typed.earlier ts body.0.lines in
      let all = bind_some (values_from (made_name n w.time) w.pre 0 (v ∷ kept) body.0.lines) _ i body.2 in
      let back = values_back (made_name n w.time) typed.earlier types all.0 body.0.lines 0 (v ∷ kept) ts [] are typed.typed all.1 in
      rw (body.1, back) all.2

  -- Shapes.

  post_same : (c : Name) (a : Ty) → type_among part.node c ≡ Some (t.Cell a) → fired c ≡ true → post_in part c ≡ post_in w c
  post_same c a h f =
      let before = pre_same c a h in
      let occ : part.occ c ≡ w.occ c = rw f refl in
      rw (occ, before) refl

  abbrev HasFired : Name → Type 0
  HasFired m = fired m ≡ true

  occ_same : (c : Name) → fired c ≡ true → part.occ c ≡ w.occ c
  occ_same c f = rw f refl

  inner_reads : (x : trace.Node) (c : Name) (a : Ty) (o : Option Val) → post_in w c ≡ o → type_among part.node c ≡ Some (t.Cell a) → is_cell a ≡ true → fired c ≡ true
      → AllByRecursion HasFired (targets o) → has_reads prog w x (Switchc c) ≡ true → has_reads prog part x (Switchc c) ≡ true
  inner_reads x c a None e source kind f l h = let no : false ≡ true = rw e at h in absurd cc
  inner_reads x c a (Some d) e source kind f l h =
      let after : post_in part c ≡ Some d = post_same c a source f ∙ e in
      let names = refers (type_among part.node) (sigs prog) d a (cell_type a kind) (cell_after prog part formed c a d source after) in
      let item = some_there (cell_item a) kind in
      let inner : type_among part.node (target d) ≡ Some (t.Cell item.0) = names ∙ ap Some (cell_from a item.0 item.1) in
      let reads : not (is_some (w.occ c) || is_some (w.occ (target d))) || is_some (post_in w (target d)) ≡ true = rw e at h in
      let here : not (is_some (part.occ c) || is_some (part.occ (target d))) || is_some (post_in part (target d)) ≡ true
      = rw (post_same (target d) item.0 inner l.0, occ_same c f, occ_same (target d) l.0) reads in
      rw after here

  made_back : (x : trace.Node) (s : Name) (k : ℕ) (kept : List Val) (d : Pattern) → slice_get (patterns prog) k ≡ Some d → type_among part.node s ≡ Some (t.Stream d.param)
      → are_values prog part.node kept d.kept ≡ true → fired s ≡ true → has_reads prog w x (Execute s k kept) ≡ true → has_reads prog part x (Execute s k kept) ≡ true
  made_back x s k kept d pattern source fit f h = by (w.occ s) refl where
    by : (o : Option Val) → w.occ s ≡ o → has_reads prog part x (Execute s k kept) ≡ true
    by None e = let there : part.occ s ≡ None = occ_same s f ∙ e in rw there refl
    by (Some a) e =
        let made : is_some (instance prog w x.name k kept a) ≡ true = rw e at h in
        let i = some_there (instance prog w x.name k kept a) made in
        let there : part.occ s ≡ Some a = occ_same s f ∙ e in
        let back = instance_back x.name k kept a d i.0 pattern (stream_occ prog part formed s d.param a source there) fit i.1 in
        rw (there, back) refl

  pub reads_back : (x : trace.Node) (a : Ty) (s : Shape) → Allows prog part a s → AllByRecursion HasFired (during_links w (post_in w) s) → has_reads prog w x s ≡ true → has_reads prog part x s ≡ true
  reads_back x a (Snapshot f s c) (b, d, k, source, cell, gives, is) l h = rw (occ_same s l.0, pre_same c d cell) h
  reads_back x a (Value c) (b, source, is) l h = rw (post_same c b source l.0) h
  reads_back x a (Apply cf ca) (b, d, function, argument, is) l h =
      rw (post_same cf (t.Fun b d) function l.0, post_same ca b argument l.1.0, occ_same cf l.0, occ_same ca l.1.0) h
  reads_back x a (Switchs c) (source, kind) l h = rw (pre_same c a source) h
  reads_back x a (Switchc c) (source, kind) l h = inner_reads x c a (post_in w c) refl source kind l.0 l.1 h
  reads_back x a (Execute s k kept) (d, pattern, source, fit, is) l h = made_back x s k kept d pattern source fit l.0 h
  reads_back x a _ p l h = h
