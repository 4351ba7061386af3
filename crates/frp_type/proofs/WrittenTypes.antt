-- A written type without a fault is a type of the language.
use Rattle.std.proofs.Common.{◌≡◌, ℕ, Bool, true, false, Some, Ok, Err, refl, sym, ap, ◌∙◌, subst}
use Rattle.std.specs.Prelude.{◌&&◌, ◌||◌, is_some}
use Rattle.frp_base.specs.declared.ty.Ty.{Ty, out-roll-Ty}
use Rattle.frp_base.specs.declared.ty.Ty.TheOpen as u
use Rattle.frp_base.specs.declared.ty.Ty.TheVariants as t
use Rattle.frp_base.specs.declared.ty.Ty.TheFolds.{fold-roll-Ty}
use Rattle.frp_expr.specs.Types.{type_kind, kind_step, is_type, is_plain, given}
use Rattle.frp_expr.specs.Raw.{ExprOutcome, ◌>>=◌, or_fault, TyPart, item_by, ty_part, type_written, written_step}
use Rattle.frp_expr.specs.declared.fault.TypeKind.TheVariants as kind
use Rattle.frp_expr.specs.declared.raw.RawTy.{RawTy, RawTy-F, roll-RawTy, fold-roll-RawTy, map-RawTy, ind-RawTy}
use Rattle.frp_expr.specs.declared.raw.TyForm.{TyForm, TyForm-F, roll-TyForm, fold-TyForm, fold-roll-TyForm, map-TyForm}
use Rattle.frp_expr.specs.declared.raw.TyForm.TheOpen as y
use Rattle.frp_graph.specs.TypedProg.{stream_in, cell_in, stream_item, cell_item, is_stream, is_cell}
use Rattle.frp_base.proofs.Booleans.{true_both, or_true}

pub stream_item_of : (a : Ty) → stream_item (t.Stream a) ≡ Some a
stream_item_of a = ap stream_item (sym (t.rolls-Stream a)) ∙ ap stream_in (out-roll-Ty (u.Stream a))

pub cell_item_of : (a : Ty) → cell_item (t.Cell a) ≡ Some a
cell_item_of a = ap cell_item (sym (t.rolls-Cell a)) ∙ ap cell_in (out-roll-Ty (u.Cell a))

pub cell_is_node : (a : Ty) → is_stream (t.Cell a) || is_cell (t.Cell a) ≡ true
cell_is_node a = ap (λ b. is_stream (t.Cell a) || b) (ap is_some (cell_item_of a)) ∙ or_true (is_stream (t.Cell a))

kind_pair : (a b : Ty) → type_kind (t.Pair a b) ≡ kind_step (u.Pair (type_kind a) (type_kind b))
kind_pair a b = ap type_kind (sym (t.rolls-Pair a b)) ∙ fold-roll-Ty (Bool × Bool) kind_step (u.Pair a b)

kind_list : (a : Ty) → type_kind (t.List a) ≡ kind_step (u.List (type_kind a))
kind_list a = ap type_kind (sym (t.rolls-List a)) ∙ fold-roll-Ty (Bool × Bool) kind_step (u.List a)

kind_stream : (a : Ty) → type_kind (t.Stream a) ≡ kind_step (u.Stream (type_kind a))
kind_stream a = ap type_kind (sym (t.rolls-Stream a)) ∙ fold-roll-Ty (Bool × Bool) kind_step (u.Stream a)

kind_cell : (a : Ty) → type_kind (t.Cell a) ≡ kind_step (u.Cell (type_kind a))
kind_cell a = ap type_kind (sym (t.rolls-Cell a)) ∙ fold-roll-Ty (Bool × Bool) kind_step (u.Cell a)

kind_fun : (a b : Ty) → type_kind (t.Fun a b) ≡ kind_step (u.Fun (type_kind a) (type_kind b))
kind_fun a b = ap type_kind (sym (t.rolls-Fun a b)) ∙ fold-roll-Ty (Bool × Bool) kind_step (u.Fun a b)

pub stream_is_type : (a : Ty) → is_type a ≡ true → is_type (t.Stream a) ≡ true
stream_is_type a h = ap (λ (k : Bool × Bool). k.0) (kind_stream a) ∙ h

pub cell_is_type : (a : Ty) → is_type a ≡ true → is_type (t.Cell a) ≡ true
cell_is_type a h = ap (λ (k : Bool × Bool). k.0) (kind_cell a) ∙ h

abbrev form_written : TyForm → ExprOutcome Ty
form_written = fold-TyForm (ExprOutcome Ty) TyPart written_step (λ r. record { at = r.at; ty = r.form })

abbrev Right : ExprOutcome Ty → Type 0
Right w = (a : Ty) → w ≡ Ok a → is_type a ≡ true

abbrev SuchForm : Type 0
SuchForm = (f : TyForm) × Right (form_written f)

abbrev SuchRaw : Type 0
SuchRaw = (r : RawTy) × Right (ty_part r).ty

pub bind_ok : {A B : Type 0} (o : ExprOutcome A) (f : A → ExprOutcome B) (x : B) → (o >>= f) ≡ Ok x → (a : A) × (o ≡ Ok a) × (f a ≡ Ok x)
bind_ok (Ok a) f x e = (a, refl, e)
bind_ok (Err g) f x e = absurd cc

pub ok_same : {A : Type 0} {x y : A} → ◌≡◌ {A = ExprOutcome A} (Ok x) (Ok y) → x ≡ y
ok_same e = cc

one_right : (w : ExprOutcome Ty) (f : Ty → Ty) → Right w → ((a : Ty) → is_type a ≡ true → is_type (f a) ≡ true) → Right (w >>= λ p. Ok (f p))
one_right w f h g a e = let p = bind_ok w (λ p. Ok (f p)) a e in subst (λ (a : Ty). is_type a ≡ true) (ok_same p.2) (g p.0 (h p.0 p.1))

two_right : (w v : ExprOutcome Ty) (f : Ty → Ty → Ty) → Right w → Right v → ((a b : Ty) → is_type a ≡ true → is_type b ≡ true → is_type (f a b) ≡ true) → Right (w >>= λ p. v >>= λ q. Ok (f p q))
two_right w v f h k g a e =
    let p = bind_ok w (λ p. v >>= λ q. Ok (f p q)) a e in
    let q = bind_ok v (λ q. Ok (f p.0 q)) a p.2 in
    subst (λ (a : Ty). is_type a ≡ true) (ok_same q.2) (g p.0 q.0 (h p.0 p.1) (k q.0 q.1))

right_plain : (at : ℕ) (b : Bool) (x y : Ty) → or_fault at kind.Type (given b x) ≡ Ok y → (b ≡ true) × (x ≡ y)
right_plain at true x y e = (refl, ok_same e)
right_plain at false x y e = absurd cc

list_right : (p : TyPart) → Right (item_by p >>= λ x. Ok (t.List x))
list_right p a e =
    let q = bind_ok (item_by p) (λ x. Ok (t.List x)) a e in
    let r = bind_ok p.ty (λ x. or_fault p.at kind.Type (given (is_plain x) x)) q.0 q.1 in
    let s = right_plain p.at (is_plain r.0) r.0 q.0 r.2 in
    subst (λ (a : Ty). is_type a ≡ true) (ok_same q.2) (ap (λ (k : Bool × Bool). k.0) (kind_list q.0) ∙ ap is_plain (sym s.1) ∙ s.0)

written_layer : (l : TyForm-F SuchForm SuchRaw) → Right (written_step (map-TyForm TyForm RawTy (ExprOutcome Ty) TyPart form_written ty_part (map-TyForm SuchForm SuchRaw TyForm RawTy (λ s. s.0) (λ s. s.0) l)))
written_layer y.Int a e = subst (λ (a : Ty). is_type a ≡ true) (ok_same e) (ap (λ (k : Bool × Bool). k.0) (ap type_kind (sym t.rolls-Int) ∙ fold-roll-Ty (Bool × Bool) kind_step u.Int))
written_layer y.Bool a e = subst (λ (a : Ty). is_type a ≡ true) (ok_same e) (ap (λ (k : Bool × Bool). k.0) (ap type_kind (sym t.rolls-Bool) ∙ fold-roll-Ty (Bool × Bool) kind_step u.Bool))
written_layer y.Text a e = subst (λ (a : Ty). is_type a ≡ true) (ok_same e) (ap (λ (k : Bool × Bool). k.0) (ap type_kind (sym t.rolls-Text) ∙ fold-roll-Ty (Bool × Bool) kind_step u.Text))
written_layer (y.Pair p q) a e = two_right (ty_part p.0).ty (ty_part q.0).ty t.Pair p.1 q.1 (λ a b h g. ap (λ (k : Bool × Bool). k.0) (kind_pair a b) ∙ true_both (is_type a) (is_type b) h g) a e
written_layer (y.List p) a e = list_right (ty_part p.0) a e
written_layer (y.Stream p) a e = one_right (ty_part p.0).ty t.Stream p.1 stream_is_type a e
written_layer (y.Cell p) a e = one_right (ty_part p.0).ty t.Cell p.1 cell_is_type a e
written_layer (y.Fun p q) a e = two_right (ty_part p.0).ty (ty_part q.0).ty t.Fun p.1 q.1 (λ a b h g. ap (λ (k : Bool × Bool). k.0) (kind_fun a b) ∙ true_both (is_type a) (is_type b) h g) a e

form_rolled : (l : TyForm-F SuchForm SuchRaw) → let f : TyForm = roll-TyForm (map-TyForm SuchForm SuchRaw TyForm RawTy (λ s. s.0) (λ s. s.0) l) in Right (form_written f)
form_rolled l =
    let m : TyForm-F TyForm RawTy = map-TyForm SuchForm SuchRaw TyForm RawTy (λ s. s.0) (λ s. s.0) l in
    subst Right (sym (fold-roll-TyForm (ExprOutcome Ty) TyPart written_step (λ r. record { at = r.at; ty = r.form }) m)) (written_layer l)

raw_rolled : (l : RawTy-F SuchForm SuchRaw) → let r : RawTy = roll-RawTy (map-RawTy SuchForm SuchRaw TyForm RawTy (λ s. s.0) (λ s. s.0) l) in Right (ty_part r).ty
raw_rolled l =
    let m : RawTy-F TyForm RawTy = map-RawTy SuchForm SuchRaw TyForm RawTy (λ s. s.0) (λ s. s.0) l in
    subst (λ (p : TyPart). Right p.ty) (sym (fold-roll-RawTy (ExprOutcome Ty) TyPart written_step (λ r. record { at = r.at; ty = r.form }) m)) l.form.1

pub written_is_type : (r : RawTy) (a : Ty) → type_written r ≡ Ok a → is_type a ≡ true
written_is_type = ind-RawTy (λ f. Right (form_written f)) (λ r. Right (ty_part r).ty)
    (λ m l q. subst (λ (m : TyForm-F TyForm RawTy). Right (form_written (roll-TyForm m))) q (form_rolled l))
    (λ m l q. subst (λ (m : RawTy-F TyForm RawTy). Right (ty_part (roll-RawTy m)).ty) q (raw_rolled l))
