-- Tokens of the kinds of a type are that type, places apart.
use Rattle.std.proofs.Common.{◌≡◌, ℕ, zero, suc, true, List, [], ◌∷◌, ◌++◌, refl, sym, ap, ◌∙◌, subst}
use Rattle.std.specs.Prelude.{◌&&◌}
use Rattle.frp_expr.specs.declared.raw.RawTy.{RawTy, RawTy-F, out-RawTy, roll-out-RawTy, fold-RawTy, fold-roll-RawTy}
use Rattle.frp_expr.specs.declared.raw.TyForm.{TyForm, TyForm-F, roll-TyForm, out-TyForm, roll-out-TyForm, fold-TyForm, fold-roll-TyForm, map-TyForm}
use Rattle.frp_expr.specs.declared.raw.TyForm.TheVariants as f
use Rattle.frp_expr.specs.declared.raw.TyForm.TheOpen as y
use Rattle.frp_lex.specs.declared.token.Kind.TheVariants as k
use Rattle.frp_lex.specs.declared.token.Token.{Token}
use Rattle.frp_lex.specs.Spelling.{kinds}
use Rattle.frp_form.specs.declared.ty_word.AtomTy.{AtomTy}
use Rattle.frp_form.specs.declared.ty_word.AtomTy.TheVariants as a
use Rattle.frp_form.specs.declared.ty_word.UnaryTy.{UnaryTy}
use Rattle.frp_form.specs.declared.ty_word.UnaryTy.TheVariants as u
use Rattle.frp_form.specs.declared.ty_word.BinaryTy.{BinaryTy}
use Rattle.frp_form.specs.declared.ty_word.BinaryTy.TheVariants as b
use Rattle.frp_form.specs.Types.{raw_ty, atom_ty, unary_ty, binary_ty}
use Rattle.frp_form.specs.Words.{atom_word, unary_ty_word, binary_ty_word}
use Rattle.frp_form.specs.Grammar.{word_at, left_at, TypeCase, atom, type_of_one, type_of_two, IsTypeOf, IsType}
use Rattle.frp_base.proofs.Booleans.{both_true}
use Rattle.frp_write.specs.Writing.{Kinds, parens, ty_kinds, ty_kinds_step}
use Rattle.frp_write.specs.Lawful.{Levels, level, ty_within, ty_within_step, is_lawful_ty}
use Rattle.frp_write.specs.Places.{unplaced_ty}
use Rattle.frp_write.proofs.Splitting.{one, ending, closing, closing_two}
use Rattle.frp_write.proofs.Placed.{Placed}

-- one layer of a type
abbrev pub Layer : Type 0
Layer = TyForm-F TyForm RawTy

module _ (A B : Type 0) (step : TyForm-F A B → A) (proj : RawTy-F A B → B) where
  -- what a fold makes of the parts
  abbrev pub through : Layer → TyForm-F A B
  through = map-TyForm TyForm RawTy A B (fold-TyForm A B step proj) (fold-RawTy A B step proj)

  layer_fold : (at : ℕ) (l : Layer) → fold-RawTy A B step proj (raw_ty at (roll-TyForm l)) ≡ proj (record { at = at; form = step (through l) })
  layer_fold at l =
      let m : RawTy-F TyForm RawTy = record { at = at; form = roll-TyForm l } in
      fold-roll-RawTy A B step proj m ∙ ap (λ (w : A). proj (record { at = at; form = w })) (fold-roll-TyForm A B step proj l)

abbrev pub kinds_through : Layer → TyForm-F Kinds Kinds
kinds_through = through Kinds Kinds ty_kinds_step (λ r. r.form)

abbrev pub within_through : Layer → TyForm-F Levels Levels
within_through = through Levels Levels ty_within_step (λ r. level r.form)

abbrev bare_through : Layer → TyForm-F TyForm RawTy
bare_through = through TyForm RawTy (λ l. roll-TyForm l) (λ r. raw_ty 0 r.form)

kinds_layer : (at : ℕ) (l : Layer) → ty_kinds (raw_ty at (roll-TyForm l)) ≡ ty_kinds_step (kinds_through l)
kinds_layer = layer_fold Kinds Kinds ty_kinds_step (λ r. r.form)

pub within_layer : (n at : ℕ) (l : Layer) → ty_within (raw_ty at (roll-TyForm l)) n ≡ level (ty_within_step (within_through l)) n
within_layer n at l = ap (λ (g : Levels). g n) (layer_fold Levels Levels ty_within_step (λ r. level r.form) at l)

bare_layer : (at : ℕ) (l : Layer) → unplaced_ty (raw_ty at (roll-TyForm l)) ≡ raw_ty 0 (roll-TyForm (bare_through l))
bare_layer = layer_fold TyForm RawTy (λ l. roll-TyForm l) (λ r. raw_ty 0 r.form)

-- types whose parts are the same, places apart, are
same_by : (a at : ℕ) (w : TyForm) (l m : Layer) → roll-TyForm l ≡ w → bare_through l ≡ bare_through m → unplaced_ty (raw_ty a w) ≡ unplaced_ty (raw_ty at (roll-TyForm m))
same_by a at w l m r e = ap (λ (v : TyForm). unplaced_ty (raw_ty a v)) (sym r) ∙ bare_layer a l ∙ ap (λ (v : Layer). raw_ty 0 (roll-TyForm v)) e ∙ sym (bare_layer at m)

abbrev PlacedTy : ℕ → RawTy → List Token → Type 0
PlacedTy n = Placed (IsTypeOf n) unplaced_ty

abbrev Known : ℕ → Type 0
Known n = (x : RawTy) → ty_within x n ≡ true → (ts : List Token) → kinds ts ≡ ty_kinds x → PlacedTy n x ts

module _ (n : ℕ) (known : Known n) where
  abbrev Result : Layer → List Token → Type 0
  Result l ts = (at : ℕ) → Placed (TypeCase (IsTypeOf n)) unplaced_ty (raw_ty at (roll-TyForm l)) ts

  atom_placed : (op : AtomTy) (l : Layer) → roll-TyForm l ≡ atom_ty op → (ts : List Token) → kinds ts ≡ k.Word (atom_word op) ∷ [] → Result l ts
  atom_placed op l r ts e at =
      ending (Placed (TypeCase (IsTypeOf n)) unplaced_ty (raw_ty at (roll-TyForm l))) (k.Word (atom_word op))
      (λ a. record { y = raw_ty a (atom_ty op); is = atom a op; same = same_by a at (atom_ty op) l l r refl }) ts e

  one_placed : (op : UnaryTy) (con : RawTy → Layer) → ((x : RawTy) → roll-TyForm (con x) ≡ unary_ty op x) → ((x : RawTy) → bare_through (con x) ≡ con (unplaced_ty x))
      → (x : RawTy) → ty_within x n ≡ true → (ts : List Token) → kinds ts ≡ parens (k.Word (unary_ty_word op) ∷ ty_kinds x) → Result (con x) ts
  one_placed op con rolls bare x w ts e at =
      let P : List Token → Type 0 = Placed (TypeCase (IsTypeOf n)) unplaced_ty (raw_ty at (roll-TyForm (con x))) in
      one P k.Left (k.Word (unary_ty_word op) ∷ ty_kinds x ++ k.Right ∷ []) (λ a us d.
      one (λ vs. P (left_at a ∷ vs)) (k.Word (unary_ty_word op)) (ty_kinds x ++ k.Right ∷ []) (λ b vs f.
      closing (λ vs. P (left_at a ∷ word_at b (unary_ty_word op) ∷ vs)) (ty_kinds x) (λ xs c g.
      let p = known x w xs g in
      record {
        y = raw_ty a (unary_ty op p.y);
        is = type_of_one a b c op p.y xs p.is;
        same = same_by a at (unary_ty op p.y) (con p.y) (con x) (rolls p.y) (bare p.y ∙ ap con p.same ∙ sym (bare x));
      }) vs f) us d) ts e

  two_placed : (op : BinaryTy) (con : RawTy → RawTy → Layer) → ((x z : RawTy) → roll-TyForm (con x z) ≡ binary_ty op x z) → ((x z : RawTy) → bare_through (con x z) ≡ con (unplaced_ty x) (unplaced_ty z))
      → (x z : RawTy) → ty_within x n && ty_within z n ≡ true → (ts : List Token) → kinds ts ≡ parens (k.Word (binary_ty_word op) ∷ ty_kinds x ++ ty_kinds z) → Result (con x z) ts
  two_placed op con rolls bare x z w ts e at =
      let P : List Token → Type 0 = Placed (TypeCase (IsTypeOf n)) unplaced_ty (raw_ty at (roll-TyForm (con x z))) in
      let h = both_true (ty_within x n) (ty_within z n) w in
      one P k.Left (k.Word (binary_ty_word op) ∷ (ty_kinds x ++ ty_kinds z) ++ k.Right ∷ []) (λ a us d.
      one (λ vs. P (left_at a ∷ vs)) (k.Word (binary_ty_word op)) ((ty_kinds x ++ ty_kinds z) ++ k.Right ∷ []) (λ b vs f.
      closing_two (λ vs. P (left_at a ∷ word_at b (binary_ty_word op) ∷ vs)) (ty_kinds x) (ty_kinds z) (λ xs zs c g m.
      let p = known x h.0 xs g in
      let q = known z h.1 zs m in
      record {
        y = raw_ty a (binary_ty op p.y q.y);
        is = type_of_two a b c op p.y q.y xs zs p.is q.is;
        same = same_by a at (binary_ty op p.y q.y) (con p.y q.y) (con x z) (rolls p.y q.y) (bare p.y q.y ∙ (λ i. con (p.same i) (q.same i)) ∙ sym (bare x z));
      }) vs f) us d) ts e

  layer_placed : (l : Layer) → ty_within_step (within_through l) n ≡ true → (ts : List Token) → kinds ts ≡ ty_kinds_step (kinds_through l) → Result l ts
  layer_placed y.Int w ts e = atom_placed a.Int y.Int f.rolls-Int ts e
  layer_placed y.Bool w ts e = atom_placed a.Bool y.Bool f.rolls-Bool ts e
  layer_placed y.Text w ts e = atom_placed a.Text y.Text f.rolls-Text ts e
  layer_placed (y.Pair x z) w ts e = two_placed b.Pair y.Pair f.rolls-Pair (λ x z. refl) x z w ts e
  layer_placed (y.List x) w ts e = one_placed u.List y.List f.rolls-List (λ x. refl) x w ts e
  layer_placed (y.Stream x) w ts e = one_placed u.Stream y.Stream f.rolls-Stream (λ x. refl) x w ts e
  layer_placed (y.Cell x) w ts e = one_placed u.Cell y.Cell f.rolls-Cell (λ x. refl) x w ts e
  layer_placed (y.Fun x z) w ts e = two_placed b.Fun y.Fun f.rolls-Fun (λ x z. refl) x z w ts e

-- a type, opened
abbrev pub form_in : RawTy → Layer
form_in x = out-TyForm (out-RawTy x).form

pub opened : (x : RawTy) → raw_ty (out-RawTy x).at (roll-TyForm (form_in x)) ≡ x
opened x = ap (λ (w : TyForm). raw_ty (out-RawTy x).at w) (roll-out-TyForm (out-RawTy x).form) ∙ roll-out-RawTy x

pub within_opened : (n : ℕ) (x : RawTy) → ty_within x n ≡ true → level (ty_within_step (within_through (form_in x))) n ≡ true
within_opened n x w = sym (within_layer n (out-RawTy x).at (form_in x)) ∙ ap (λ (y : RawTy). ty_within y n) (opened x) ∙ w

pub kinds_opened : (x : RawTy) → ty_kinds x ≡ ty_kinds_step (kinds_through (form_in x))
kinds_opened x = ap ty_kinds (sym (opened x)) ∙ kinds_layer (out-RawTy x).at (form_in x)

pub types_placed : (n : ℕ) → Known n
unfolding IsTypeOf
types_placed zero x w ts e = let h : level (ty_within_step (within_through (form_in x))) 0 ≡ true = within_opened 0 x w in absurd cc
types_placed (suc n) x w ts e =
    subst (λ (y : RawTy). PlacedTy (suc n) y ts) (opened x)
    (layer_placed n (types_placed n) (form_in x) (within_opened (suc n) x w) ts (e ∙ kinds_opened x) (out-RawTy x).at)

-- tokens of the kinds of a lawful type are that type, places apart
pub type_placed : (x : RawTy) → is_lawful_ty x ≡ true → (ts : List Token) → kinds ts ≡ ty_kinds x → Placed IsType unplaced_ty x ts
type_placed x w ts e = types_placed 16 x w ts e
