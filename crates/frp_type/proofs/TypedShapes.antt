-- A shape without a fault is a typed line.
use Rattle.std.proofs.Common.{◌≡◌, ℕ, Bool, true, false, List, [], ◌∷◌, ◌++◌, length, Option, Some, None, Ok, Err, refl, sym, ap, ◌∙◌, subst}
use Rattle.std.specs.Prelude.{◌&&◌, ◌||◌, slice_get}
use Rattle.std.specs.Result.{result_ok}
use Rattle.std.proofs.lemmas.List.{map-append, length-map}
use Rattle.frp_base.specs.declared.text.Text.{Text}
use Rattle.frp_base.specs.declared.ty.Ty.{Ty}
use Rattle.frp_base.specs.declared.ty.Ty.TheVariants as t
use Rattle.frp_base.specs.declared.ty.Ty.{out-Ty}
use Rattle.frp_base.specs.declared.ty.Ty.TheOpen.{Ty-F}
use Rattle.frp_base.specs.declared.ty.Ty.TheOpen as u
use Rattle.frp_base.specs.Ty.{ty_eq}
use Rattle.frp_base.proofs.TyLemmas.{ty_decides, ty_eq-same}
use Rattle.frp_base.proofs.Booleans.{both_true}
use Rattle.frp_expr.specs.declared.expr.Expr.{Expr}
use Rattle.frp_expr.specs.declared.raw.Raw.{Raw}
use Rattle.frp_expr.specs.Raw.{ExprOutcome, ◌>>=◌, or_fault, part_of, type_written, typing, is_lawful, resolve}
use Rattle.frp_expr.specs.Scope.{Named, names_of, types_of, fun_names, sigs_of}
use Rattle.frp_expr.specs.Types.{is_type, given, item_type}
use Rattle.frp_expr.specs.Typing.{Sig, ◌>>=◌ as ◌>>?◌, type_in}
use Rattle.frp_expr.specs.declared.fault.TypeFault.{TypeFault}
use Rattle.frp_expr.specs.declared.fault.TypeKind.{TypeKind}
use Rattle.frp_expr.specs.declared.fault.TypeKind.TheVariants as kind
use Rattle.frp_expr.specs.declared.raw.RawTy.{RawTy}
use Rattle.frp_expr.proofs.TypeLemmas.{bind_some, given_some}
use Rattle.frp_expr.proofs.TypingAgrees.{agrees}
use Rattle.frp_file.specs.declared.file.ShapeForm.{ShapeForm}
use Rattle.frp_file.specs.declared.file.ShapeForm.TheVariants.{Never, Constant, Map, Mapc, Filter, Merge, Snapshot, Split, Updates, Value, Loops, Loopc, Hold, Apply, Switchs, Switchc, Execute}
use Rattle.frp_graph.specs.TypedProg.{stream_item, cell_item, stream_of, cell_of, lam_type, shape_type, types_at, result_in, result_for, is_stream, is_cell}
use Rattle.frp_type.specs.Closed.{closed, used_of}
use Rattle.frp_type.specs.Core.{is_core_shape}
use Rattle.frp_type.specs.Known.{Known, operand_seen, of_type, stream, cell, over, fun_in, fun_parts, shape_typing, lam_in}
use Rattle.frp_type.specs.Meaning.{operand, body_expr, code, line_lam, line_shape}
use Rattle.frp_expr.proofs.MoreFuns.{sigs_more}
use Rattle.frp_graph.proofs.TypedValues.{stream_is}
use Rattle.frp_type.proofs.ClosedTypes.{closed_type}
use Rattle.frp_type.proofs.WrittenTypes.{stream_item_of, cell_item_of, cell_is_node, stream_is_type, cell_is_type, written_is_type, bind_ok, ok_same}

pub right_ok : {A : Type 0} (at : ℕ) (k : TypeKind) (o : Option A) (x : A) → or_fault at k o ≡ Ok x → o ≡ Some x
right_ok at k (Some a) x e = cc
right_ok at k None x e = absurd cc

no_ok : {A : Type 0} {f : TypeFault} {x : A} → ◌≡◌ {A = ExprOutcome A} (Err f) (Ok x) → ⊥
no_ok e = absurd cc

-- steps of options, put together otherwise
then_then : {A B C : Type 0} (o : Option A) (f : A → Option B) (g : B → Option C) → (o >>? f) >>? g ≡ o >>? (λ a. f a >>? g)
then_then (Some a) f g = refl
then_then None f g = refl

result_by : (w : Ty-F Ty) (p : Ty × Ty) → fun_in w ≡ Some p → result_in p.0 w ≡ Some p.1
result_by (u.Fun a b) p e =
    let q : (a, b) ≡ p = cc in
    subst (λ (p : Ty × Ty). result_in p.0 (u.Fun a b) ≡ Some p.1) q (ap (λ z. given z b) (ty_eq-same a))
result_by _ p e = absurd cc

result_of : (f : Ty) (p : Ty × Ty) → fun_parts f ≡ Some p → result_for f p.0 ≡ Some p.1
result_of f p e = result_by (out-Ty f) p e

-- The sigs of all functions, of which the first are those that are known, the expressions of the program, and what is known.
module _ (k : Known) (more : List Sig) (codes : List Expr) where
  abbrev sigs : List Sig
  sigs = sigs_of k.funs ++ more

  abbrev ts : List Ty
  ts = types_of k.names

  -- an operand, and what its type is seen as
  typed : (r : Raw) (a : Ty) → is_lawful r ≡ true → typing k.funs r k.names ≡ Ok a → type_in sigs (operand k r) ts ≡ Some a
  typed r a h e = sigs_more (sigs_of k.funs) more (operand k r) ts a (sym (agrees k.funs r k.names h) ∙ ap result_ok e)

  seen_ok : {A : Type 0} (right : Ty → Option A) (r : Raw) (b : A) → is_lawful r ≡ true → operand_seen k.funs k.names right r ≡ Ok b
      → (a : Ty) × (type_in sigs (operand k r) ts ≡ Some a) × (right a ≡ Some b)
  seen_ok right r b h e =
      let s = bind_ok (typing k.funs r k.names) (λ x. or_fault (part_of k.funs r).at kind.Type (right x)) b e in
      (s.0, typed r s.0 h s.1, right_ok (part_of k.funs r).at kind.Type (right s.0) b s.2)

  seen_as : (right : Ty → Option Ty) (r : Raw) (b : Ty) → is_lawful r ≡ true → operand_seen k.funs k.names right r ≡ Ok b → (type_in sigs (operand k r) ts >>? right) ≡ Some b
  seen_as right r b h e = let s = seen_ok right r b h e in ap (λ o. o >>? right) s.1 ∙ s.2

  is_stream_of : (r : Raw) (a : Ty) → is_lawful r ≡ true → stream k.funs k.names r ≡ Ok a → stream_of sigs codes [] ts (operand k r) ≡ Some a
  is_stream_of r a h e = seen_as stream_item r a h e

  is_cell_of : (r : Raw) (a : Ty) → is_lawful r ≡ true → cell k.funs k.names r ≡ Ok a → cell_of sigs codes [] ts (operand k r) ≡ Some a
  is_cell_of r a h e = seen_as cell_item r a h e

  -- an operand of a type
  of_it : (x : Ty) (r : Raw) (b : Ty) → is_lawful r ≡ true → of_type k.funs k.names x r ≡ Ok b → type_in sigs (operand k r) ts ≡ Some x
  of_it x r b h e = let s = seen_ok (λ y. given (ty_eq y x) x) r b h e in s.1 ∙ ap Some ((ty_decides s.0 x).0 (given_some (ty_eq s.0 x) x b s.2).0)

  -- an expression with variables
  lam_ok : (vs : List Named) (e : Raw) (b : Ty) → is_lawful e ≡ true → slice_get codes k.codes ≡ Some (code k (names_of vs) e) → typing k.funs e (k.names ++ vs) ≡ Ok b
      → lam_type sigs codes [] ts (line_lam k (names_of vs) e) (types_of vs) ≡ Some b
  lam_ok vs e b h c q =
      let n : length ts ≡ length k.names = length-map k.names (λ (n : Named). n.1) in
      let m : length (types_of vs) ≡ length (names_of vs) = length-map vs (λ (n : Named). n.1) ∙ sym (length-map vs (λ (n : Named). n.0)) in
      let x : Expr = body_expr k (names_of vs) e in
      let whole : type_in sigs x (ts ++ types_of vs) ≡ Some b = sigs_more (sigs_of k.funs) more x (ts ++ types_of vs) b (
      ap (λ ns. type_in (sigs_of k.funs) (resolve (fun_names k.funs) e ns) (ts ++ types_of vs)) (sym (map-append (λ (n : Named). n.0) k.names vs))
      ∙ ap (type_in (sigs_of k.funs) (resolve (fun_names k.funs) e (names_of (k.names ++ vs)))) (sym (map-append (λ (n : Named). n.1) k.names vs))
      ∙ sym (agrees k.funs e (k.names ++ vs) h) ∙ ap result_ok q) in
      let r = closed_type sigs ts (types_of vs) x in
      let kept : types_at ts (used_of (length k.names) (length (names_of vs)) x) ≡ Some r.0 = ap (λ i. types_at ts (used_of i (length (names_of vs)) x)) (sym n) ∙ ap (λ i. types_at ts (used_of (length ts) i x)) (sym m) ∙ r.1.0 in
      let own : type_in sigs (code k (names_of vs) e) (r.0 ++ types_of vs) ≡ Some b =
      ap (λ i. type_in sigs (closed i (length (names_of vs)) x) (r.0 ++ types_of vs)) (sym n) ∙ ap (λ i. type_in sigs (closed (length ts) i x) (r.0 ++ types_of vs)) (sym m) ∙ r.1.1 ∙ whole in
      ap (λ o. o >>? λ (ks : List Ty). slice_get codes k.codes >>? λ (c : Expr). type_in sigs c (ks ++ types_of vs)) kept
      ∙ ap (λ o. o >>? λ (c : Expr). type_in sigs c (r.0 ++ types_of vs)) c ∙ own

  -- an expression with variables of a type
  over_as : (vs : List Named) (y : Ty) (e : Raw) (b : Ty) → of_type k.funs (k.names ++ vs) y e ≡ Ok b → typing k.funs e (k.names ++ vs) ≡ Ok y
  over_as vs y e b q =
      let s = bind_ok (typing k.funs e (k.names ++ vs)) (λ x. or_fault (part_of k.funs e).at kind.Type (given (ty_eq x y) y)) b q in
      s.1 ∙ ap Ok ((ty_decides s.0 y).0 (given_some (ty_eq s.0 y) y b (right_ok (part_of k.funs e).at kind.Type (given (ty_eq s.0 y) y) b s.2)).0)

  abbrev pub HasCode : ShapeForm → Type 0
  HasCode sh = (f : List Text × Raw) → lam_in sh ≡ Some f → slice_get codes k.codes ≡ Some (code k f.0 f.1)

  module _ (ties : List (ℕ × ℕ)) where
    abbrev pub Typed : ShapeForm → Ty → Type 0
    Typed sh x = shape_type sigs codes [] ts x (line_shape ties k sh) ≡ Some x

    never : (x : Ty) (ty : RawTy) → type_written ty >>= (λ a. Ok (t.Stream a)) ≡ Ok x → given (is_stream x && is_type x) x ≡ Some x
    never x ty e =
        let p = bind_ok (type_written ty) (λ a. Ok (t.Stream a)) x e in
        let q : t.Stream p.0 ≡ x = ok_same p.2 in
        subst (λ (x : Ty). given (is_stream x && is_type x) x ≡ Some x) q
        (ap (λ b. given (b && is_type (t.Stream p.0)) (t.Stream p.0)) (stream_is p.0) ∙ ap (λ b. given b (t.Stream p.0)) (stream_is_type p.0 (written_is_type ty p.0 p.1)))

    loop : (x : Ty) (ty : RawTy) (f : Ty → Ty) → type_written ty >>= (λ a. Ok (f a)) ≡ Ok x → ((a : Ty) → (is_stream (f a) || is_cell (f a)) ≡ true) → ((a : Ty) → is_type a ≡ true → is_type (f a) ≡ true)
        → given ((is_stream x || is_cell x) && is_type x) x ≡ Some x
    loop x ty f e n m =
        let p = bind_ok (type_written ty) (λ a. Ok (f a)) x e in
        let q : f p.0 ≡ x = ok_same p.2 in
        subst (λ (x : Ty). given ((is_stream x || is_cell x) && is_type x) x ≡ Some x) q
        (ap (λ b. given (b && is_type (f p.0)) (f p.0)) (n p.0) ∙ ap (λ b. given b (f p.0)) (m p.0 (written_is_type ty p.0 p.1)))

    pub typed_shape : (sh : ShapeForm) (x : Ty) → is_core_shape sh ≡ true → HasCode sh → shape_typing k.funs k.names sh ≡ Ok x → Typed sh x
    typed_shape (Never ty) x h c e = never x ty e
    typed_shape (Constant o) x h c e =
        let p = bind_ok (typing k.funs o k.names) (λ a. Ok (t.Cell a)) x e in
        ap (λ o. o >>? λ a. Some (t.Cell a)) (typed o p.0 h p.1) ∙ ap Some (ok_same p.2)
    typed_shape (Map v s b) x h c e =
        let g = both_true (is_lawful s) (is_lawful b) h in
        let p = bind_ok (stream k.funs k.names s) (λ a. over k.funs k.names ((v.text, a) ∷ []) b >>= λ d. Ok (t.Stream d)) x e in
        let q = bind_ok (over k.funs k.names ((v.text, p.0) ∷ []) b) (λ d. Ok (t.Stream d)) x p.2 in
        ap (λ o. o >>? λ a. lam_type sigs codes [] ts (line_lam k (v.text ∷ []) b) (a ∷ []) >>? λ d. Some (t.Stream d)) (is_stream_of s p.0 g.0 p.1)
        ∙ ap (λ o. o >>? λ d. Some (t.Stream d)) (lam_ok ((v.text, p.0) ∷ []) b q.0 g.1 (c (v.text ∷ [], b) refl) q.1) ∙ ap Some (ok_same q.2)
    typed_shape (Mapc v s b) x h c e =
        let g = both_true (is_lawful s) (is_lawful b) h in
        let p = bind_ok (cell k.funs k.names s) (λ a. over k.funs k.names ((v.text, a) ∷ []) b >>= λ d. Ok (t.Cell d)) x e in
        let q = bind_ok (over k.funs k.names ((v.text, p.0) ∷ []) b) (λ d. Ok (t.Cell d)) x p.2 in
        ap (λ o. o >>? λ a. lam_type sigs codes [] ts (line_lam k (v.text ∷ []) b) (a ∷ []) >>? λ d. Some (t.Cell d)) (is_cell_of s p.0 g.0 p.1)
        ∙ ap (λ o. o >>? λ d. Some (t.Cell d)) (lam_ok ((v.text, p.0) ∷ []) b q.0 g.1 (c (v.text ∷ [], b) refl) q.1) ∙ ap Some (ok_same q.2)
    typed_shape (Filter v s b) x h c e =
        let g = both_true (is_lawful s) (is_lawful b) h in
        let p = bind_ok (stream k.funs k.names s) (λ a. of_type k.funs (k.names ++ (v.text, a) ∷ []) t.Bool b >>= λ _. Ok (t.Stream a)) x e in
        let q = bind_ok (of_type k.funs (k.names ++ (v.text, p.0) ∷ []) t.Bool b) (λ _. Ok (t.Stream p.0)) x p.2 in
        let r : typing k.funs b (k.names ++ (v.text, p.0) ∷ []) ≡ Ok t.Bool = over_as ((v.text, p.0) ∷ []) t.Bool b q.0 q.1 in
        ap (λ o. o >>? λ a. lam_type sigs codes [] ts (line_lam k (v.text ∷ []) b) (a ∷ []) >>? λ d. given (ty_eq d t.Bool) (t.Stream a)) (is_stream_of s p.0 g.0 p.1)
        ∙ ap (λ o. o >>? λ d. given (ty_eq d t.Bool) (t.Stream p.0)) (lam_ok ((v.text, p.0) ∷ []) b t.Bool g.1 (c (v.text ∷ [], b) refl) r)
        ∙ ap (λ z. given z (t.Stream p.0)) (ty_eq-same t.Bool) ∙ ap Some (ok_same q.2)
    typed_shape (Merge v w r s b) x h c e =
        let g = both_true (is_lawful r && is_lawful s) (is_lawful b) h in
        let i = both_true (is_lawful r) (is_lawful s) g.0 in
        let p = bind_ok (stream k.funs k.names r) (λ a. of_type k.funs k.names (t.Stream a) s >>= λ _. of_type k.funs (k.names ++ (v.text, a) ∷ (w.text, a) ∷ []) a b >>= λ _. Ok (t.Stream a)) x e in
        let q = bind_ok (of_type k.funs k.names (t.Stream p.0) s) (λ _. of_type k.funs (k.names ++ (v.text, p.0) ∷ (w.text, p.0) ∷ []) p.0 b >>= λ _. Ok (t.Stream p.0)) x p.2 in
        let u = bind_ok (of_type k.funs (k.names ++ (v.text, p.0) ∷ (w.text, p.0) ∷ []) p.0 b) (λ _. Ok (t.Stream p.0)) x q.2 in
        let z : typing k.funs b (k.names ++ (v.text, p.0) ∷ (w.text, p.0) ∷ []) ≡ Ok p.0 = over_as ((v.text, p.0) ∷ (w.text, p.0) ∷ []) p.0 b u.0 u.1 in
        let m : stream_of sigs codes [] ts (operand k s) ≡ Some p.0 = ap (λ o. o >>? stream_item) (of_it (t.Stream p.0) s q.0 i.1 q.1) ∙ stream_item_of p.0 in
        ap (λ o. o >>? λ a. stream_of sigs codes [] ts (operand k s) >>? λ d. lam_type sigs codes [] ts (line_lam k (v.text ∷ w.text ∷ []) b) (a ∷ a ∷ []) >>? λ l. given (ty_eq d a && ty_eq l a) (t.Stream a)) (is_stream_of r p.0 i.0 p.1)
        ∙ ap (λ o. o >>? λ d. lam_type sigs codes [] ts (line_lam k (v.text ∷ w.text ∷ []) b) (p.0 ∷ p.0 ∷ []) >>? λ l. given (ty_eq d p.0 && ty_eq l p.0) (t.Stream p.0)) m
        ∙ ap (λ o. o >>? λ l. given (ty_eq p.0 p.0 && ty_eq l p.0) (t.Stream p.0)) (lam_ok ((v.text, p.0) ∷ (w.text, p.0) ∷ []) b p.0 g.1 (c (v.text ∷ w.text ∷ [], b) refl) z)
        ∙ ap (λ y. given (y && y) (t.Stream p.0)) (ty_eq-same p.0) ∙ ap Some (ok_same u.2)
    typed_shape (Snapshot v w s d b) x h c e =
        let g = both_true (is_lawful s && is_lawful d) (is_lawful b) h in
        let i = both_true (is_lawful s) (is_lawful d) g.0 in
        let p = bind_ok (stream k.funs k.names s) (λ a. cell k.funs k.names d >>= λ y. over k.funs k.names ((v.text, a) ∷ (w.text, y) ∷ []) b >>= λ l. Ok (t.Stream l)) x e in
        let q = bind_ok (cell k.funs k.names d) (λ y. over k.funs k.names ((v.text, p.0) ∷ (w.text, y) ∷ []) b >>= λ l. Ok (t.Stream l)) x p.2 in
        let u = bind_ok (over k.funs k.names ((v.text, p.0) ∷ (w.text, q.0) ∷ []) b) (λ l. Ok (t.Stream l)) x q.2 in
        ap (λ o. o >>? λ a. cell_of sigs codes [] ts (operand k d) >>? λ y. lam_type sigs codes [] ts (line_lam k (v.text ∷ w.text ∷ []) b) (a ∷ y ∷ []) >>? λ l. Some (t.Stream l)) (is_stream_of s p.0 i.0 p.1)
        ∙ ap (λ o. o >>? λ y. lam_type sigs codes [] ts (line_lam k (v.text ∷ w.text ∷ []) b) (p.0 ∷ y ∷ []) >>? λ l. Some (t.Stream l)) (is_cell_of d q.0 i.1 q.1)
        ∙ ap (λ o. o >>? λ l. Some (t.Stream l)) (lam_ok ((v.text, p.0) ∷ (w.text, q.0) ∷ []) b u.0 g.1 (c (v.text ∷ w.text ∷ [], b) refl) u.1) ∙ ap Some (ok_same u.2)
    typed_shape (Split s) x h c e =
        let p = bind_ok (operand_seen k.funs k.names (λ y. stream_item y >>? item_type) s) (λ a. Ok (t.Stream a)) x e in
        sym (then_then (stream_of sigs codes [] ts (operand k s)) item_type (λ b. Some (t.Stream b))) ∙ ap (λ o. o >>? λ b. Some (t.Stream b))
        (then_then (type_in sigs (operand k s) ts) stream_item item_type ∙ seen_as (λ y. stream_item y >>? item_type) s p.0 h p.1) ∙ ap Some (ok_same p.2)
    typed_shape (Updates d) x h c e =
        let p = bind_ok (cell k.funs k.names d) (λ a. Ok (t.Stream a)) x e in ap (λ o. o >>? λ a. Some (t.Stream a)) (is_cell_of d p.0 h p.1) ∙ ap Some (ok_same p.2)
    typed_shape (Value d) x h c e =
        let p = bind_ok (cell k.funs k.names d) (λ a. Ok (t.Stream a)) x e in ap (λ o. o >>? λ a. Some (t.Stream a)) (is_cell_of d p.0 h p.1) ∙ ap Some (ok_same p.2)
    typed_shape (Loops ty) x h c e = loop x ty t.Stream e (λ a. ap (λ b. b || is_cell (t.Stream a)) (stream_is a)) stream_is_type
    typed_shape (Loopc ty) x h c e = loop x ty t.Cell e (λ a. cell_is_node a) cell_is_type
    typed_shape (Hold o s) x h c e =
        let g = both_true (is_lawful o) (is_lawful s) h in
        let p = bind_ok (typing k.funs o k.names) (λ a. of_type k.funs k.names (t.Stream a) s >>= λ _. Ok (t.Cell a)) x e in
        let q = bind_ok (of_type k.funs k.names (t.Stream p.0) s) (λ _. Ok (t.Cell p.0)) x p.2 in
        let m : stream_of sigs codes [] ts (operand k s) ≡ Some p.0 = ap (λ o. o >>? stream_item) (of_it (t.Stream p.0) s q.0 g.1 q.1) ∙ stream_item_of p.0 in
        ap (λ w. w >>? λ a. stream_of sigs codes [] ts (operand k s) >>? λ b. given (ty_eq b a) (t.Cell a)) (typed o p.0 g.0 p.1)
        ∙ ap (λ w. w >>? λ b. given (ty_eq b p.0) (t.Cell p.0)) m ∙ ap (λ z. given z (t.Cell p.0)) (ty_eq-same p.0) ∙ ap Some (ok_same q.2)
    typed_shape (Apply f d) x h c e =
        let g = both_true (is_lawful f) (is_lawful d) h in
        let p = bind_ok (operand_seen k.funs k.names (λ y. cell_item y >>? fun_parts) f) (λ r. of_type k.funs k.names (t.Cell r.0) d >>= λ _. Ok (t.Cell r.1)) x e in
        let q = bind_ok (of_type k.funs k.names (t.Cell p.0.0) d) (λ _. Ok (t.Cell p.0.1)) x p.2 in
        let s = seen_ok (λ y. cell_item y >>? fun_parts) f p.0 g.0 p.1 in
        let w = bind_some (cell_item s.0) fun_parts p.0 s.2 in
        let m : cell_of sigs codes [] ts (operand k d) ≡ Some p.0.0 = ap (λ o. o >>? cell_item) (of_it (t.Cell p.0.0) d q.0 g.1 q.1) ∙ cell_item_of p.0.0 in
        ap (λ o. (o >>? cell_item) >>? λ y. cell_of sigs codes [] ts (operand k d) >>? λ a. result_for y a >>? λ b. Some (t.Cell b)) s.1
        ∙ ap (λ o. o >>? λ y. cell_of sigs codes [] ts (operand k d) >>? λ a. result_for y a >>? λ b. Some (t.Cell b)) w.1
        ∙ ap (λ o. o >>? λ a. result_for w.0 a >>? λ b. Some (t.Cell b)) m
        ∙ ap (λ o. o >>? λ b. Some (t.Cell b)) (result_of w.0 p.0 w.2) ∙ ap Some (ok_same q.2)
    typed_shape (Switchs d) x h c e =
        let p = bind_ok (operand_seen k.funs k.names (λ y. cell_item y >>? stream_item) d) (λ a. Ok (t.Stream a)) x e in
        sym (then_then (cell_of sigs codes [] ts (operand k d)) stream_item (λ b. Some (t.Stream b))) ∙ ap (λ o. o >>? λ b. Some (t.Stream b))
        (then_then (type_in sigs (operand k d) ts) cell_item stream_item ∙ seen_as (λ y. cell_item y >>? stream_item) d p.0 h p.1) ∙ ap Some (ok_same p.2)
    typed_shape (Switchc d) x h c e =
        let p = bind_ok (operand_seen k.funs k.names (λ y. cell_item y >>? cell_item) d) (λ a. Ok (t.Cell a)) x e in
        sym (then_then (cell_of sigs codes [] ts (operand k d)) cell_item (λ b. Some (t.Cell b))) ∙ ap (λ o. o >>? λ b. Some (t.Cell b))
        (then_then (type_in sigs (operand k d) ts) cell_item cell_item ∙ seen_as (λ y. cell_item y >>? cell_item) d p.0 h p.1) ∙ ap Some (ok_same p.2)
    typed_shape (Execute s template kept) x h c e =
        let p = bind_ok (stream k.funs k.names s) (λ _. Err (record { place = template.at; kind = kind.Unknown })) x e in absurd (no_ok p.2)
    typed_shape _ x h c e = absurd cc
