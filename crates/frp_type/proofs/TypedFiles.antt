-- The program of a file without a fault is typed.
use Rattle.std.proofs.Common.{◌≡◌, ℕ, suc, zero, ◌+◌, Bool, true, false, List, [], ◌∷◌, ◌++◌, length, map, Option, Some, None, Ok, refl, sym, ap, ◌∙◌, subst, arith, inl, inr, append_assoc}
use Rattle.std.specs.Prelude.{◌&&◌, ◌==◌, is_some, unwrap_or, filter, not, slice_get, if◌then◌else◌}
use Rattle.std.specs.Result.{result_ok}
use Rattle.std.specs.List.{list_all, AllByRecursion}
use Rattle.std.proofs.lemmas.Bool.{cases_Bool}
use Rattle.std.proofs.lemmas.Bool.Decides.{nat_tests}
use Rattle.std.proofs.lemmas.List.{map-append, length-map, length-append, append-nil}
use Rattle.std.proofs.lemmas.List.Folds.{list_all-append}
use Rattle.frp_base.specs.declared.text.Text.{Text}
use Rattle.frp_base.specs.declared.ty.Ty.{Ty}
use Rattle.frp_base.specs.declared.ty.Ty.TheVariants as t
use Rattle.frp_base.proofs.TyLemmas.{ty_decides}
use Rattle.frp_base.proofs.Booleans.{both_true, true_both}
use Rattle.frp_base.proofs.Lists.{get_next, get_more}
use Rattle.frp_expr.specs.declared.expr.Expr.{Expr}
use Rattle.frp_expr.specs.declared.fault.TypeKind.TheVariants as kind
use Rattle.frp_expr.specs.declared.raw.Raw.{Raw}
use Rattle.frp_expr.specs.declared.raw.RawTy.{RawTy}
use Rattle.frp_expr.specs.declared.raw.Spot.{Spot}
use Rattle.frp_expr.specs.Raw.{ExprOutcome, ◌>>=◌, type_written, typing, resolve}
use Rattle.frp_expr.specs.Scope.{Named, Fun, names_of, types_of, fun_names, sigs_of}
use Rattle.frp_expr.specs.Types.{is_type, given}
use Rattle.frp_expr.specs.Typing.{Sig, type_in, has}
use Rattle.frp_expr.proofs.TypingAgrees.{agrees}
use Rattle.frp_expr.proofs.TypeLemmas.{some_has}
use Rattle.frp_file.specs.declared.file.Decl.{Decl}
use Rattle.frp_file.specs.declared.file.Decl.TheVariants as d
use Rattle.frp_file.specs.declared.file.File.{File}
use Rattle.frp_file.specs.declared.file.Function.{Function}
use Rattle.frp_file.specs.declared.file.ItemForm.{ItemForm}
use Rattle.frp_file.specs.declared.file.ItemForm.TheVariants.{Sink, Let, Tie}
use Rattle.frp_file.specs.declared.file.Param.{Param}
use Rattle.frp_file.specs.declared.file.RawShape.{RawShape}
use Rattle.frp_file.specs.declared.file.ShapeForm.{ShapeForm}
use Rattle.frp_file.specs.declared.file.ShapeForm.TheVariants.{Loops, Loopc}
use Rattle.frp_graph.specs.declared.prog.FunDef.{FunDef}
use Rattle.frp_graph.specs.declared.prog.Line3.{Line3}
use Rattle.frp_graph.specs.declared.prog.Line3.TheVariants.{Node}
use Rattle.frp_graph.specs.declared.prog.LineShape.{LineShape}
use Rattle.frp_graph.specs.declared.prog.LineShape.TheVariants as l
use Rattle.frp_graph.specs.TypedProg.{IsTypedProg, is_node_line, has_tied_type, are_typed_lines, shape_type, sig_of, are_typed_funs, all_types}
use Rattle.frp_graph.proofs.TypedValues.{stream_is}
use Rattle.frp_type.specs.Core.{is_core, is_core_decl, is_core_item, is_core_sender}
use Rattle.frp_type.specs.Known.{Known, nothing, unless_taken, shape_typing, lam_in, with_name, with_let, tying, loop_of, target_of, named, type_at, same_type, fault_if, item_known, params, fun_known, declared, all_declared}
use Rattle.frp_type.specs.Faults.{checked, all_tied, listened, scripted}
use Rattle.frp_type.specs.Meaning.{known_with, each, or_int, code, tied_to, line_shape, item_lines, lines_of, code_in, item_codes, codes_of, tie_in, item_ties, ties_of, fun_def, funs_of, prog_of, meaning}
use Rattle.frp_type.proofs.WrittenTypes.{stream_is_type, written_is_type, bind_ok, ok_same}
use Rattle.frp_type.proofs.TypedShapes.{typed_shape}

-- Lists.

-- Ties.

abbrev pub GoodTies : List Ty → List (ℕ × ℕ) → Type 0
GoodTies all = AllByRecursion (λ ij. same_type (slice_get all ij.1) (slice_get all ij.0) ≡ true)

same_some : (o : Option Ty) (x : Ty) → same_type o (Some x) ≡ true → o ≡ Some x
same_some None x h = absurd cc
same_some (Some y) x h = ap Some ((ty_decides y x).0 h)

tied_ok : (all : List Ty) (ties : List (ℕ × ℕ)) (p : ℕ) (x : Ty) → slice_get all p ≡ Some x → GoodTies all ties → slice_get all (tied_to ties p) ≡ Some x
tied_ok all [] p x e g = e
tied_ok all (ij ∷ more) p x e g = elim (cases_Bool (ij.0 == p)) [
  | inl h ↦ let q : ij.0 ≡ p = grind (arith, nat_tests) in
      rw h (same_some (slice_get all ij.1) x (ap (same_type (slice_get all ij.1)) (sym (ap (slice_get all) q ∙ e)) ∙ g.0))
  | inr h ↦ rw h (tied_ok all more p x e g.1)
]

tied_line : (sigs : List Sig) (codes : List Expr) (all : List Ty) (ties : List (ℕ × ℕ)) (k : Known) (sh : ShapeForm) (x : Ty) → slice_get all (length k.names) ≡ Some x → GoodTies all ties
    → has_tied_type sigs codes [] all x (line_shape ties k sh) ≡ true
tied_line sigs codes all ties k (Loops ty) x e g = some_has x _ (tied_ok all ties (length k.names) x e g)
tied_line sigs codes all ties k (Loopc ty) x e g = some_has x _ (tied_ok all ties (length k.names) x e g)
tied_line sigs codes all ties k _ x e g = refl

-- What a declaration without a fault adds.

pub after_is : (k n : Known) (x : Decl) → declared k x ≡ Ok n → known_with k x ≡ n
after_is k n x e = ap (λ (o : ExprOutcome Known). unwrap_or (result_ok o) k) e

pub step : (k m : Known) (x : Decl) (ds : List Decl) → all_declared k (x ∷ ds) ≡ Ok m → (n : Known) × (declared k x ≡ Ok n) × (all_declared n ds ≡ Ok m)
step k m x ds e = bind_ok (declared k x) (λ n. all_declared n ds) m e

or_int_is : (o : ExprOutcome Ty) (a : Ty) → o ≡ Ok a → or_int o ≡ a
or_int_is o a e = ap or_int e

-- Items.

-- after a name of this type
with_type : (names : List Named) (n : Text) (x : Ty) → types_of (names ++ (n, x) ∷ []) ≡ types_of names ++ x ∷ []
with_type names n x = map-append (λ (m : Named). m.1) names ((n, x) ∷ [])

-- a sink without a fault: its type, and what is known after it
pub sink_ok : (k m : Known) (n : Spot) (ty : RawTy) → item_known k (Sink n ty) ≡ Ok m → (a : Ty) × (type_written ty ≡ Ok a) × (with_name k n.text (t.Stream a) ≡ m)
sink_ok k m n ty e =
    let p = bind_ok (unless_taken (names_of k.names) n) (λ _. type_written ty >>= λ a. Ok (with_name k n.text (t.Stream a))) m e in
    let q = bind_ok (type_written ty) (λ a. Ok (with_name k n.text (t.Stream a))) m p.2 in
    (q.0, q.1, ok_same q.2)

pub let_ok : (k m : Known) (n : Spot) (shape : RawShape) → item_known k (Let n shape) ≡ Ok m → (a : Ty) × (shape_typing k.funs k.names shape.form ≡ Ok a) × (with_let k n shape.form a ≡ m)
let_ok k m n shape e =
    let p = bind_ok (unless_taken (names_of k.names) n) (λ _. shape_typing k.funs k.names shape.form >>= λ a. Ok (with_let k n shape.form a)) m e in
    let q = bind_ok (shape_typing k.funs k.names shape.form) (λ a. Ok (with_let k n shape.form a)) m p.2 in
    (q.0, q.1, ok_same q.2)

abbrev untie : Known → ℕ → Known
untie k i = record k { loops = filter (λ l. not (l.position == i)) k.loops }

pub tie_known : (k m : Known) (l x : Spot) → item_known k (Tie l x) ≡ Ok m → (ij : ℕ × ℕ) × (tying k l x ≡ Ok ij) × (untie k ij.0 ≡ m)
tie_known k m l x e = let p = bind_ok (tying k l x) (λ ij. Ok (untie k ij.0)) m e in (p.0, p.1, ok_same p.2)

-- a function without a fault
pub fun_ok : (k m : Known) (f : Function) → fun_known k f ≡ Ok m
    → (kept : List Named) × (a : Ty) × (b : Ty) × (params [] f.kept ≡ Ok kept) × (type_written f.arg.ty ≡ Ok a) × (typing k.funs f.e (kept ++ (f.arg.name.text, a) ∷ []) ≡ Ok b)
    × (record k { funs = k.funs ++ (f.name.text, types_of kept, a, b) ∷ [] } ≡ m)
fun_ok k m f e =
    let p = bind_ok (unless_taken (fun_names k.funs) f.name) (λ _. params [] f.kept >>= λ kept. unless_taken (names_of kept) f.arg.name >>= λ _. type_written f.arg.ty >>= λ a. typing k.funs f.e (kept ++ (f.arg.name.text, a) ∷ []) >>= λ b. Ok (record k { funs = k.funs ++ (f.name.text, types_of kept, a, b) ∷ [] })) m e in
    let q = bind_ok (params [] f.kept) (λ kept. unless_taken (names_of kept) f.arg.name >>= λ _. type_written f.arg.ty >>= λ a. typing k.funs f.e (kept ++ (f.arg.name.text, a) ∷ []) >>= λ b. Ok (record k { funs = k.funs ++ (f.name.text, types_of kept, a, b) ∷ [] })) m p.2 in
    let r = bind_ok (unless_taken (names_of q.0) f.arg.name) (λ _. type_written f.arg.ty >>= λ a. typing k.funs f.e (q.0 ++ (f.arg.name.text, a) ∷ []) >>= λ b. Ok (record k { funs = k.funs ++ (f.name.text, types_of q.0, a, b) ∷ [] })) m q.2 in
    let s = bind_ok (type_written f.arg.ty) (λ a. typing k.funs f.e (q.0 ++ (f.arg.name.text, a) ∷ []) >>= λ b. Ok (record k { funs = k.funs ++ (f.name.text, types_of q.0, a, b) ∷ [] })) m r.2 in
    let u = bind_ok (typing k.funs f.e (q.0 ++ (f.arg.name.text, s.0) ∷ [])) (λ b. Ok (record k { funs = k.funs ++ (f.name.text, types_of q.0, s.0, b) ∷ [] })) m s.2 in
    (q.0, s.0, u.0, q.1, s.1, u.1, ok_same u.2)

-- parameters without a fault are of types of the language
params_types : (ns : List Named) (ps : List Param) (ms : List Named) → list_all is_type (types_of ns) ≡ true → params ns ps ≡ Ok ms → list_all is_type (types_of ms) ≡ true
params_types ns [] ms h e = subst (λ (ms : List Named). list_all is_type (types_of ms) ≡ true) (ok_same e) h
params_types ns (p ∷ ps) ms h e =
    let q = bind_ok (unless_taken (names_of ns) p.name) (λ _. type_written p.ty >>= λ a. params (ns ++ (p.name.text, a) ∷ []) ps) ms e in
    let r = bind_ok (type_written p.ty) (λ a. params (ns ++ (p.name.text, a) ∷ []) ps) ms q.2 in
    let more : list_all is_type (types_of (ns ++ (p.name.text, r.0) ∷ [])) ≡ true =
    ap (list_all is_type) (with_type ns p.name.text r.0) ∙ list_all-append is_type (types_of ns) (r.0 ∷ []) ∙ true_both _ _ h (true_both (is_type r.0) true (written_is_type p.ty r.0 r.1) refl) in
    params_types (ns ++ (p.name.text, r.0) ∷ []) ps ms more r.2

-- The functions: what is known of them, and their definitions.

-- the definition of a function without a fault
def_is : (k : Known) (f : Function) (kept : List Named) (a b : Ty) → params [] f.kept ≡ Ok kept → type_written f.arg.ty ≡ Ok a → typing k.funs f.e (kept ++ (f.arg.name.text, a) ∷ []) ≡ Ok b
    → funs_of k (d.Function f) ≡ record { kept = types_of kept; arg = a; result = b; e = resolve (fun_names k.funs) f.e (names_of kept ++ f.arg.name.text ∷ []) } ∷ []
def_is k f kept a b p q r =
    ap (λ (o : ExprOutcome (List Named)). fun_def k f (unwrap_or (result_ok o) []) ∷ []) p
    ∙ ap (λ (o : ExprOutcome Ty). record { kept = types_of kept; arg = or_int o; result = or_int (typing k.funs f.e (kept ++ (f.arg.name.text, or_int o) ∷ [])); e = resolve (fun_names k.funs) f.e (names_of kept ++ f.arg.name.text ∷ []) } ∷ []) q
    ∙ ap (λ (o : ExprOutcome Ty). record { kept = types_of kept; arg = a; result = or_int o; e = resolve (fun_names k.funs) f.e (names_of kept ++ f.arg.name.text ∷ []) } ∷ []) r

-- what is known of functions after a declaration
sigs_step : (k n : Known) (x : Decl) → declared k x ≡ Ok n → sigs_of n.funs ≡ sigs_of k.funs ++ map sig_of (funs_of k x)
sigs_step k n (d.Function f) e =
    let p = fun_ok k n f e in
    ap (λ (m : Known). sigs_of m.funs) (sym p.6) ∙ map-append (λ (g : Fun). record { kept = g.1; arg = g.2; result = g.3 }) k.funs ((f.name.text, types_of p.0, p.1, p.2) ∷ [])
    ∙ ap (λ (ds : List FunDef). sigs_of k.funs ++ map sig_of ds) (sym (def_is k f p.0 p.1 p.2 p.3 p.4 p.5))
sigs_step k n (d.Item i) e = sigs_item i.form e where
  sigs_item : (i : ItemForm) → item_known k i ≡ Ok n → sigs_of n.funs ≡ sigs_of k.funs ++ []
  sigs_item (Sink m ty) e = let p = sink_ok k n m ty e in ap (λ (m : Known). sigs_of m.funs) (sym p.2) ∙ sym (append-nil (sigs_of k.funs))
  sigs_item (Let m shape) e = let p = let_ok k n m shape e in ap (λ (m : Known). sigs_of m.funs) (sym p.2) ∙ sym (append-nil (sigs_of k.funs))
  sigs_item (Tie l x) e = let p = tie_known k n l x e in ap (λ (m : Known). sigs_of m.funs) (sym p.2) ∙ sym (append-nil (sigs_of k.funs))
  sigs_item _ e = ap (λ (m : Known). sigs_of m.funs) (sym (ok_same e)) ∙ sym (append-nil (sigs_of k.funs))
sigs_step k n (d.Template x) e = ap (λ (m : Known). sigs_of m.funs) (sym (ok_same e)) ∙ sym (append-nil (sigs_of k.funs))

-- a declaration's function before others
funs_front : (k n : Known) (x : Decl) → declared k x ≡ Ok n → is_core_decl x ≡ true → (rest : List FunDef) → are_typed_funs (sigs_of n.funs) rest ≡ true → are_typed_funs (sigs_of k.funs) (funs_of k x ++ rest) ≡ true
funs_front k n (d.Function f) e h rest r =
    let p = fun_ok k n f e in
    let whole : type_in (sigs_of k.funs) (resolve (fun_names k.funs) f.e (names_of p.0 ++ f.arg.name.text ∷ [])) (types_of p.0 ++ p.1 ∷ []) ≡ Some p.2 =
    ap (λ ns. type_in (sigs_of k.funs) (resolve (fun_names k.funs) f.e ns) (types_of p.0 ++ p.1 ∷ [])) (sym (map-append (λ (m : Named). m.0) p.0 ((f.arg.name.text, p.1) ∷ [])))
    ∙ ap (type_in (sigs_of k.funs) (resolve (fun_names k.funs) f.e (names_of (p.0 ++ (f.arg.name.text, p.1) ∷ [])))) (sym (with_type p.0 f.arg.name.text p.1))
    ∙ sym (agrees k.funs f.e (p.0 ++ (f.arg.name.text, p.1) ∷ []) h) ∙ ap result_ok p.5 in
    let known_with : sigs_of k.funs ++ record { kept = types_of p.0; arg = p.1; result = p.2 } ∷ [] ≡ sigs_of n.funs =
    sym (map-append (λ (g : Fun). record { kept = g.1; arg = g.2; result = g.3 }) k.funs ((f.name.text, types_of p.0, p.1, p.2) ∷ [])) ∙ ap (λ (m : Known). sigs_of m.funs) p.6 in
    ap (λ (ds : List FunDef). are_typed_funs (sigs_of k.funs) (ds ++ rest)) (def_is k f p.0 p.1 p.2 p.3 p.4 p.5)
    ∙ true_both _ (are_typed_funs (sigs_of k.funs ++ record { kept = types_of p.0; arg = p.1; result = p.2 } ∷ []) rest)
    (true_both (list_all is_type (types_of p.0) && is_type p.1) (has p.2 (type_in (sigs_of k.funs) (resolve (fun_names k.funs) f.e (names_of p.0 ++ f.arg.name.text ∷ [])) (types_of p.0 ++ p.1 ∷ [])))
    (true_both (list_all is_type (types_of p.0)) (is_type p.1) (params_types [] f.kept p.0 refl p.3) (written_is_type f.arg.ty p.1 p.4)) (some_has p.2 _ whole))
    (ap (λ (ss : List Sig). are_typed_funs ss rest) known_with ∙ r)
funs_front k n (d.Item i) e h rest r = ap (λ (ss : List Sig). are_typed_funs ss rest) (sym (sigs_step k n (d.Item i) e ∙ append-nil (sigs_of k.funs))) ∙ r
funs_front k n (d.Template x) e h rest r = absurd cc

-- each function's expression has its type
funs_typed : (ds : List Decl) (k m : Known) → all_declared k ds ≡ Ok m → list_all is_core_decl ds ≡ true → are_typed_funs (sigs_of k.funs) (each funs_of k ds) ≡ true
funs_typed [] k m e h = refl
funs_typed (x ∷ ds) k m e h =
    let s = step k m x ds e in
    let g = both_true (is_core_decl x) (list_all is_core_decl ds) h in
    let rest : are_typed_funs (sigs_of s.0.funs) (each funs_of (known_with k x) ds) ≡ true = subst (λ (n : Known). are_typed_funs (sigs_of s.0.funs) (each funs_of n ds) ≡ true) (sym (after_is k s.0 x s.1)) (funs_typed ds s.0 m s.2 g.1) in
    funs_front k s.0 x s.1 g.0 (each funs_of (known_with k x) ds) rest

-- The lines.

-- the expressions that are known after a declaration
code_count : (k : Known) (o : Option (List Text × Raw)) → (if is_some o then k.codes + 1 else k.codes) ≡ k.codes + length (code_in k o)
code_count k (Some f) = refl
code_count k None = omega arith

codes_step : (k n : Known) (x : Decl) → declared k x ≡ Ok n → n.codes ≡ k.codes + length (codes_of k x)
codes_step k n (d.Function f) e = let p = fun_ok k n f e in ap (λ (m : Known). m.codes) (sym p.6) ∙ code_count k None
codes_step k n (d.Item i) e = codes_item i.form e where
  codes_item : (i : ItemForm) → item_known k i ≡ Ok n → n.codes ≡ k.codes + length (item_codes k i)
  codes_item (Sink m ty) e = let p = sink_ok k n m ty e in ap (λ (m : Known). m.codes) (sym p.2) ∙ code_count k None
  codes_item (Let m shape) e = let p = let_ok k n m shape e in ap (λ (m : Known). m.codes) (sym p.2) ∙ code_count k (lam_in shape.form)
  codes_item (Tie l x) e = let p = tie_known k n l x e in ap (λ (m : Known). m.codes) (sym p.2) ∙ code_count k None
  codes_item _ e = ap (λ (m : Known). m.codes) (sym (ok_same e)) ∙ code_count k None
codes_step k n (d.Template x) e = ap (λ (m : Known). m.codes) (sym (ok_same e)) ∙ code_count k None

-- the types of a body's names after a declaration, and after several
names_step : (k n : Known) (x : Decl) → declared k x ≡ Ok n → (us : List Ty) × (types_of n.names ≡ types_of k.names ++ us)
names_step k n (d.Function f) e = let p = fun_ok k n f e in ([], ap (λ (m : Known). types_of m.names) (sym p.6) ∙ sym (append-nil (types_of k.names)))
names_step k n (d.Item i) e = names_item i.form e where
  names_item : (i : ItemForm) → item_known k i ≡ Ok n → (us : List Ty) × (types_of n.names ≡ types_of k.names ++ us)
  names_item (Sink m ty) e = let p = sink_ok k n m ty e in (t.Stream p.0 ∷ [], ap (λ (m : Known). types_of m.names) (sym p.2) ∙ with_type k.names m.text (t.Stream p.0))
  names_item (Let m shape) e = let p = let_ok k n m shape e in (p.0 ∷ [], ap (λ (m : Known). types_of m.names) (sym p.2) ∙ with_type k.names m.text p.0)
  names_item (Tie l x) e = let p = tie_known k n l x e in ([], ap (λ (m : Known). types_of m.names) (sym p.2) ∙ sym (append-nil (types_of k.names)))
  names_item _ e = ([], ap (λ (m : Known). types_of m.names) (sym (ok_same e)) ∙ sym (append-nil (types_of k.names)))
names_step k n (d.Template x) e = ([], ap (λ (m : Known). types_of m.names) (sym (ok_same e)) ∙ sym (append-nil (types_of k.names)))

names_grow : (ds : List Decl) (k m : Known) → all_declared k ds ≡ Ok m → (us : List Ty) × (types_of m.names ≡ types_of k.names ++ us)
names_grow [] k m e = ([], ap (λ (m : Known). types_of m.names) (sym (ok_same e)) ∙ sym (append-nil (types_of k.names)))
names_grow (x ∷ ds) k m e =
    let s = step k m x ds e in
    let a = names_step k s.0 x s.1 in
    let b = names_grow ds s.0 m s.2 in
    (a.0 ++ b.0, b.1 ∙ ap (λ us. us ++ b.0) a.1 ∙ append_assoc (types_of k.names) a.0 b.0)

-- what is known of a name stays
name_stays : (ds : List Decl) (k m : Known) (i : ℕ) (x : Ty) → all_declared k ds ≡ Ok m → slice_get (types_of k.names) i ≡ Some x → slice_get (types_of m.names) i ≡ Some x
name_stays ds k m i x e h = let g = names_grow ds k m e in ap (λ us. slice_get us i) g.1 ∙ get_more (types_of k.names) g.0 i x h

-- what a tie is tied to has the type of its loop
tie_types : (k : Known) (l x : Spot) (ij : ℕ × ℕ) → tying k l x ≡ Ok ij → same_type (type_at k ij.1) (type_at k ij.0) ≡ true
tie_types k l x ij e =
    let p = bind_ok (loop_of k l) (λ i. target_of k x i >>= λ j. Ok (i, j)) ij e in
    let q = bind_ok (target_of k x p.0) (λ j. Ok (p.0, j)) ij p.2 in
    let r = bind_ok (named k x) (λ j. fault_if (not (same_type (type_at k j) (type_at k p.0))) x.at kind.Type >>= λ _. Ok j) q.0 q.1 in
    let u = bind_ok (fault_if (not (same_type (type_at k r.0) (type_at k p.0))) x.at kind.Type) (λ _. Ok r.0) q.0 r.2 in
    let same_here : same_type (type_at k r.0) (type_at k p.0) ≡ true = no_fault (same_type (type_at k r.0) (type_at k p.0)) x.at u.0 u.1 in
    let w : (p.0, r.0) ≡ ij = ap (λ j. (p.0, j)) (ok_same u.2) ∙ ok_same q.2 in
    ap (λ (ij : ℕ × ℕ). same_type (type_at k ij.1) (type_at k ij.0)) (sym w) ∙ same_here where
      no_fault : (b : Bool) (at : ℕ) (z : Unit {0}) → fault_if (not b) at kind.Type ≡ Ok z → b ≡ true
      no_fault true at z h = refl
      no_fault false at z h = absurd cc

-- two positions of one type among some types have it among more
pair_good : (us ws : List Ty) (i j : ℕ) → ((i : ℕ) (y : Ty) → slice_get us i ≡ Some y → slice_get ws i ≡ Some y) → same_type (slice_get us i) (slice_get us j) ≡ true → same_type (slice_get ws i) (slice_get ws j) ≡ true
pair_good us ws i j f h = by (slice_get us i) (slice_get us j) refl refl h where
  by : (o p : Option Ty) → slice_get us i ≡ o → slice_get us j ≡ p → same_type o p ≡ true → same_type (slice_get ws i) (slice_get ws j) ≡ true
  by (Some x) (Some y) a b h = ap (λ (o : Option Ty). same_type o (slice_get ws j)) (f i x a) ∙ ap (same_type (Some x)) (f j y b) ∙ h
  by (Some x) None a b h = absurd cc
  by None p a b h = absurd cc

-- the ties are of one type
ties_front : (ds : List Decl) (n m k : Known) (x : Decl) → declared k x ≡ Ok n → all_declared n ds ≡ Ok m → (rest : List (ℕ × ℕ)) → GoodTies (types_of m.names) rest → GoodTies (types_of m.names) (ties_of k x ++ rest)
ties_front ds n m k (d.Function f) e a rest g = g
ties_front ds n m k (d.Item i) e a rest g = front i.form e where
  front : (i : ItemForm) → item_known k i ≡ Ok n → GoodTies (types_of m.names) (item_ties k i ++ rest)
  front (Tie l x) e =
      let p = tie_known k n l x e in
      let q = tie_types k l x p.0 p.1 in
      let same_names : types_of n.names ≡ types_of k.names = ap (λ (m : Known). types_of m.names) (sym p.2) in
      let stays : (i : ℕ) (y : Ty) → slice_get (types_of k.names) i ≡ Some y → slice_get (types_of m.names) i ≡ Some y = λ i y h. name_stays ds n m i y a (ap (λ us. slice_get us i) same_names ∙ h) in
      ap_ties p.0 p.1 (pair_good (types_of k.names) (types_of m.names) p.0.1 p.0.0 stays q) where
        ap_ties : (ij : ℕ × ℕ) → tying k l x ≡ Ok ij → same_type (slice_get (types_of m.names) ij.1) (slice_get (types_of m.names) ij.0) ≡ true → GoodTies (types_of m.names) (tie_in (tying k l x) ++ rest)
        ap_ties ij h s = subst (λ (o : ExprOutcome (ℕ × ℕ)). GoodTies (types_of m.names) (tie_in o ++ rest)) (sym h) (s, g)
  front _ e = g
ties_front ds n m k (d.Template x) e a rest g = g

pub ties_good : (ds : List Decl) (k m : Known) → all_declared k ds ≡ Ok m → GoodTies (types_of m.names) (each ties_of k ds)
ties_good [] k m e = tt
ties_good (x ∷ ds) k m e =
    let s = step k m x ds e in
    ties_front ds s.0 m k x s.1 s.2 (each ties_of (known_with k x) ds)
    (subst (λ (n : Known). GoodTies (types_of m.names) (each ties_of n ds)) (sym (after_is k s.0 x s.1)) (ties_good ds s.0 m s.2))

module _ (sigs : List Sig) (codes : List Expr) (ties : List (ℕ × ℕ)) where
  -- the lines of a declaration before others
  module _ (ds : List Decl) (k n m : Known) (x : Decl) (known : declared k x ≡ Ok n) (later : all_declared n ds ≡ Ok m) (more : List Sig) (pre tail : List Expr)
      (s : sigs ≡ sigs_of k.funs ++ more) (c : codes ≡ pre ++ (codes_of k x ++ tail)) (count : length pre ≡ k.codes) (good : GoodTies (types_of m.names) ties) (rest : List Line3)
      (next : (made : List ℕ) → are_typed_lines sigs codes [] (types_of m.names) (types_of n.names) made rest ≡ true) where
    abbrev all : List Ty
    all = types_of m.names

    abbrev ts : List Ty
    ts = types_of k.names

    -- a line of this type and shape
    one : (y : Ty) (sh : LineShape) (made : List ℕ) → shape_type sigs codes [] ts y sh ≡ Some y → has_tied_type sigs codes [] all y sh ≡ true → types_of n.names ≡ ts ++ y ∷ []
        → are_typed_lines sigs codes [] all ts made (Node y sh ∷ rest) ≡ true
    one y sh made e w q =
        true_both _ _ (true_both _ _ (some_has y _ e) w)
        (ap (λ us. are_typed_lines sigs codes [] all us (made ++ length ts ∷ []) rest) (sym q) ∙ next (made ++ length ts ∷ []))

    none : (made : List ℕ) → types_of n.names ≡ ts → are_typed_lines sigs codes [] all ts made rest ≡ true
    none made q = ap (λ us. are_typed_lines sigs codes [] all us made rest) (sym q) ∙ next made

    has_code : (sh : ShapeForm) → codes_of k x ≡ code_in k (lam_in sh) → (f : List Text × Raw) → lam_in sh ≡ Some f → slice_get codes k.codes ≡ Some (code k f.0 f.1)
    has_code sh q f h =
        let w : codes ≡ pre ++ (code k f.0 f.1 ∷ tail) = c ∙ ap (λ cs. pre ++ (cs ++ tail)) (q ∙ ap (code_in k) h) in
        ap (slice_get codes) (sym count) ∙ ap (λ cs. slice_get cs (length pre)) w ∙ get_next pre (code k f.0 f.1) tail

    pub lines_front : is_core_decl x ≡ true → (made : List ℕ) → are_typed_lines sigs codes [] all ts made (lines_of ties k x ++ rest) ≡ true
    lines_front h made = front x refl h where
      front_item : (i : ItemForm) → codes_of k x ≡ item_codes k i → item_known k i ≡ Ok n → is_core_item i ≡ true → are_typed_lines sigs codes [] all ts made (item_lines ties k i ++ rest) ≡ true
      front_item (Sink v ty) w e h =
          let p = sink_ok k n v ty e in
          ap (λ a. are_typed_lines sigs codes [] all ts made (Node (t.Stream a) l.Sink ∷ rest)) (or_int_is (type_written ty) p.0 p.1)
          ∙ one (t.Stream p.0) l.Sink made
          (ap (λ b. given (b && is_type (t.Stream p.0)) (t.Stream p.0)) (stream_is p.0) ∙ ap (λ b. given b (t.Stream p.0)) (stream_is_type p.0 (written_is_type ty p.0 p.1)))
          refl (ap (λ (m : Known). types_of m.names) (sym p.2) ∙ with_type k.names v.text (t.Stream p.0))
      front_item (Let v shape) w e h =
          let p = let_ok k n v shape e in
          let names : types_of n.names ≡ ts ++ p.0 ∷ [] = ap (λ (m : Known). types_of m.names) (sym p.2) ∙ with_type k.names v.text p.0 in
          let typed : shape_type sigs codes [] ts p.0 (line_shape ties k shape.form) ≡ Some p.0 =
          ap (λ (ss : List Sig). shape_type ss codes [] ts p.0 (line_shape ties k shape.form)) s ∙ typed_shape k more codes ties shape.form p.0 h (has_code shape.form w) p.1 in
          let found : slice_get (types_of n.names) (length k.names) ≡ Some p.0 =
          ap (λ us. slice_get us (length k.names)) names ∙ ap (slice_get (ts ++ p.0 ∷ [])) (sym (length-map k.names (λ (n : Named). n.1))) ∙ get_next ts p.0 [] in
          ap (λ a. are_typed_lines sigs codes [] all ts made (Node a (line_shape ties k shape.form) ∷ rest)) (or_int_is (shape_typing k.funs k.names shape.form) p.0 p.1)
          ∙ one p.0 (line_shape ties k shape.form) made typed (tied_line sigs codes all ties k shape.form p.0 (name_stays ds n m (length k.names) p.0 later found) good) names
      front_item (Tie a b) w e h = let p = tie_known k n a b e in none made (ap (λ (m : Known). types_of m.names) (sym p.2))
      front_item _ w e h = absurd cc

      front : (y : Decl) → y ≡ x → is_core_decl y ≡ true → are_typed_lines sigs codes [] all ts made (lines_of ties k y ++ rest) ≡ true
      front (d.Item i) q h = front_item i.form (ap (codes_of k) (sym q)) (ap (declared k) q ∙ known) h
      front (d.Function f) q h = let p = fun_ok k n f (ap (declared k) q ∙ known) in none made (ap (λ (m : Known). types_of m.names) (sym p.6))
      front (d.Template y) q h = absurd cc

  pub lines_typed : (ds : List Decl) (k m : Known) (pre : List Expr) (made : List ℕ) → all_declared k ds ≡ Ok m → list_all is_core_decl ds ≡ true
      → sigs ≡ sigs_of k.funs ++ map sig_of (each funs_of k ds) → codes ≡ pre ++ each codes_of k ds → length pre ≡ k.codes → GoodTies (types_of m.names) ties
      → are_typed_lines sigs codes [] (types_of m.names) (types_of k.names) made (each (lines_of ties) k ds) ≡ true
  lines_typed [] k m pre made e h s c n g = refl
  lines_typed (x ∷ ds) k m pre made e h s c n g =
      let st = step k m x ds e in
      let q = both_true (is_core_decl x) (list_all is_core_decl ds) h in
      let a : known_with k x ≡ st.0 = after_is k st.0 x st.1 in
      let s2 : sigs ≡ sigs_of st.0.funs ++ map sig_of (each funs_of (known_with k x) ds) =
      s ∙ ap (λ gs. sigs_of k.funs ++ gs) (map-append sig_of (funs_of k x) (each funs_of (known_with k x) ds)) ∙ sym (append_assoc (sigs_of k.funs) (map sig_of (funs_of k x)) (map sig_of (each funs_of (known_with k x) ds)))
      ∙ ap (λ gs. gs ++ map sig_of (each funs_of (known_with k x) ds)) (sym (sigs_step k st.0 x st.1)) in
      let c2 : codes ≡ (pre ++ codes_of k x) ++ each codes_of (known_with k x) ds = c ∙ sym (append_assoc pre (codes_of k x) (each codes_of (known_with k x) ds)) in
      let n2 : length (pre ++ codes_of k x) ≡ st.0.codes = length-append pre (codes_of k x) ∙ ap (λ i. i + length (codes_of k x)) n ∙ sym (codes_step k st.0 x st.1) in
      lines_front ds k st.0 m x st.1 st.2 (map sig_of (each funs_of k (x ∷ ds))) pre (each codes_of (known_with k x) ds) s c n g (each (lines_of ties) (known_with k x) ds)
      (λ made. ap (λ (w : Known). are_typed_lines sigs codes [] (types_of m.names) (types_of st.0.names) made (each (lines_of ties) w ds)) a
      ∙ lines_typed ds st.0 m (pre ++ codes_of k x) made st.2 q.1
      (s2 ∙ ap (λ (w : Known). sigs_of st.0.funs ++ map sig_of (each funs_of w ds)) a) (c2 ∙ ap (λ (w : Known). (pre ++ codes_of k x) ++ each codes_of w ds) a) n2 g)
      q.0 made

-- The types of all the values of the body.
all_types_of : (sigs : List Sig) (codes : List Expr) (ties : List (ℕ × ℕ)) (ds : List Decl) (k m : Known) → all_declared k ds ≡ Ok m
    → all_types sigs codes [] (types_of k.names) (each (lines_of ties) k ds) ≡ types_of m.names
all_types_of sigs codes ties [] k m e = ap (λ (m : Known). types_of m.names) (ok_same e)
all_types_of sigs codes ties (x ∷ ds) k m e =
    let st = step k m x ds e in
    front x refl (each (lines_of ties) (known_with k x) ds)
    (ap (λ (w : Known). all_types sigs codes [] (types_of st.0.names) (each (lines_of ties) w ds)) (after_is k st.0 x st.1) ∙ all_types_of sigs codes ties ds st.0 m st.2) where
      front_item : (n : Known) (i : ItemForm) (rest : List Line3) → item_known k i ≡ Ok n → all_types sigs codes [] (types_of n.names) rest ≡ types_of m.names
          → all_types sigs codes [] (types_of k.names) (item_lines ties k i ++ rest) ≡ types_of m.names
      front_item n (Sink v ty) rest e q =
          let p = sink_ok k n v ty e in
          ap (λ a. all_types sigs codes [] (types_of k.names ++ t.Stream a ∷ []) rest) (or_int_is (type_written ty) p.0 p.1)
          ∙ ap (λ us. all_types sigs codes [] us rest) (sym (ap (λ (m : Known). types_of m.names) (sym p.2) ∙ with_type k.names v.text (t.Stream p.0))) ∙ q
      front_item n (Let v shape) rest e q =
          let p = let_ok k n v shape e in
          ap (λ a. all_types sigs codes [] (types_of k.names ++ a ∷ []) rest) (or_int_is (shape_typing k.funs k.names shape.form) p.0 p.1)
          ∙ ap (λ us. all_types sigs codes [] us rest) (sym (ap (λ (m : Known). types_of m.names) (sym p.2) ∙ with_type k.names v.text p.0)) ∙ q
      front_item n (Tie a b) rest e q = let p = tie_known k n a b e in ap (λ us. all_types sigs codes [] us rest) (ap (λ (m : Known). types_of m.names) p.2) ∙ q
      front_item n _ rest e q = ap (λ us. all_types sigs codes [] us rest) (ap (λ (m : Known). types_of m.names) (ok_same e)) ∙ q

      front : (y : Decl) → y ≡ x → (rest : List Line3) → all_types sigs codes [] (types_of (step k m x ds e).0.names) rest ≡ types_of m.names
          → all_types sigs codes [] (types_of k.names) (lines_of ties k y ++ rest) ≡ types_of m.names
      front (d.Item i) w rest q = front_item (step k m x ds e).0 i.form rest (ap (declared k) w ∙ (step k m x ds e).1) q
      front (d.Function f) w rest q = let p = fun_ok k (step k m x ds e).0 f (ap (declared k) w ∙ (step k m x ds e).1) in ap (λ us. all_types sigs codes [] us rest) (ap (λ (m : Known). types_of m.names) p.6) ∙ q
      front (d.Template y) w rest q = ap (λ us. all_types sigs codes [] us rest) (ap (λ (m : Known). types_of m.names) (ok_same (ap (declared k) w ∙ (step k m x ds e).1))) ∙ q

-- The lines make nodes alone.

nodes_front : (i : ItemForm) (ties : List (ℕ × ℕ)) (k : Known) (rest : List Line3) → list_all is_node_line rest ≡ true → list_all is_node_line (item_lines ties k i ++ rest) ≡ true
nodes_front (Sink v ty) ties k rest h = h
nodes_front (Let v shape) ties k rest h = h
nodes_front _ ties k rest h = h

nodes_only : (ties : List (ℕ × ℕ)) (ds : List Decl) (k : Known) → list_all is_node_line (each (lines_of ties) k ds) ≡ true
nodes_only ties [] k = refl
nodes_only ties (x ∷ ds) k = front x (each (lines_of ties) (known_with k x) ds) (nodes_only ties ds (known_with k x)) where
  front : (x : Decl) (rest : List Line3) → list_all is_node_line rest ≡ true → list_all is_node_line (lines_of ties k x ++ rest) ≡ true
  front (d.Item i) rest h = nodes_front i.form ties k rest h
  front (d.Function f) rest h = h
  front (d.Template t) rest h = h

pub program_typed : (ds : List Decl) (m : Known) → all_declared nothing ds ≡ Ok m → list_all is_core_decl ds ≡ true → IsTypedProg (prog_of ds)
program_typed ds m e h = record {
  funs = funs_typed ds nothing m e h;
  templates = refl;
  nodes_only = nodes_only (each ties_of nothing ds) ds nothing;
  joins = refl;
  lines = ap (λ us. are_typed_lines (map sig_of (each funs_of nothing ds)) (each codes_of nothing ds) [] us [] [] (each (lines_of (each ties_of nothing ds)) nothing ds))
      (all_types_of (map sig_of (each funs_of nothing ds)) (each codes_of nothing ds) (each ties_of nothing ds) ds nothing m e)
      ∙ lines_typed (map sig_of (each funs_of nothing ds)) (each codes_of nothing ds) (each ties_of nothing ds) ds nothing m [] [] e h refl refl refl (ties_good ds nothing m e);
  no_param = refl;
  no_kept = refl;
  gives_nothing = refl;
}

pub faultless : (f : File) (k : Known) → is_core f ≡ true → checked f ≡ Ok k → IsTypedProg (meaning f).prog
faultless f k h e =
    let p = bind_ok (all_declared nothing f.graph.decls) (λ n. all_tied n.loops >>= λ _. listened n f.listens >>= λ _. scripted n f.senders >>= λ _. Ok n) k e in
    program_typed f.graph.decls p.0 p.1 (both_true (list_all is_core_decl f.graph.decls) (list_all is_core_sender f.senders) h).0
