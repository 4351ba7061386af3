-- Tokens of the kinds of an expression are that expression, places apart.
use Rattle.std.proofs.Common.{◌≡◌, ℕ, zero, suc, ◌<◌, ◌≤◌, Bool, true, false, List, [], ◌∷◌, ◌++◌, length, map, refl, sym, ap, ◌∙◌, subst, arith}
use Rattle.std.specs.Prelude.{◌&&◌, nat_le, codes, ℤ}
use Rattle.std.specs.List.{list_all}
use Rattle.std.proofs.lemmas.List.{length-map}
use Rattle.std.proofs.lemmas.Grind.{common_steps}
use Rattle.frp_expr.specs.declared.raw.Spot.{Spot}
use Rattle.frp_expr.specs.declared.raw.RawTy.{RawTy}
use Rattle.frp_expr.specs.declared.raw.Raw.{Raw, Raw-F, out-Raw, roll-out-Raw, fold-Raw, fold-roll-Raw}
use Rattle.frp_expr.specs.declared.raw.RawForm.{RawForm, RawForm-F, roll-RawForm, out-RawForm, roll-out-RawForm, fold-RawForm, fold-roll-RawForm, map-RawForm}
use Rattle.frp_expr.specs.declared.raw.RawForm.TheVariants as f
use Rattle.frp_expr.specs.declared.raw.RawForm.TheOpen as o
use Rattle.frp_expr.specs.Operators.{most}
use Rattle.frp_expr.specs.Raw.{is_lawful, is_lawful_step}
use Rattle.frp_lex.specs.declared.token.Kind.TheVariants as k
use Rattle.frp_lex.specs.declared.token.Token.{Token}
use Rattle.frp_lex.specs.Spelling.{kinds}
use Rattle.frp_form.specs.declared.heads.Unary.{Unary}
use Rattle.frp_form.specs.declared.heads.Unary.TheVariants as u
use Rattle.frp_form.specs.declared.heads.Binary.{Binary}
use Rattle.frp_form.specs.declared.heads.Binary.TheVariants as b
use Rattle.frp_form.specs.declared.heads.Ternary.{Ternary}
use Rattle.frp_form.specs.declared.heads.Ternary.TheVariants as t
use Rattle.frp_form.specs.Heads.{raw_at, unary_form, binary_form, ternary_form}
use Rattle.frp_form.specs.Words.{bool_word, unary_word, binary_word, ternary_word}
use Rattle.frp_form.specs.Grammar.{left_at, name_at, name_of, AreAll, ExprCase, number, text, true_or_false, name, form_of_one, form_of_two, form_of_three, let_form, list_form, nil_form, close_form, IsTypeOf, IsExprOf, IsExpr}
use Rattle.frp_base.proofs.Booleans.{both_true, true_both}
use Rattle.frp_write.specs.Writing.{Kinds, run_together, form, spot_kind, ty_kinds, expr_kinds, expr_kinds_step}
use Rattle.frp_write.specs.Lawful.{Levels, level, is_user, is_user_spot, ty_within, within_step, expr_within, all_within, is_lawful_expr}
use Rattle.frp_write.specs.Places.{unplaced_spot, unplaced_step, unplaced_expr}
use Rattle.frp_write.proofs.Splitting.{one, ending, opening, closing, closing_two, closing_three}
use Rattle.frp_write.proofs.Placed.{Placed, user, all_placed, as_long}
use Rattle.frp_write.proofs.PlacedTypes.{types_placed}

-- one layer of an expression
abbrev pub Layer : Type 0
Layer = RawForm-F RawForm Raw

module _ (A B : Type 0) (step : RawForm-F A B → A) (proj : Raw-F A B → B) where
  -- what a fold makes of the parts
  abbrev pub through : Layer → RawForm-F A B
  through = map-RawForm RawForm Raw A B (fold-RawForm A B step proj) (fold-Raw A B step proj)

  layer_fold : (at : ℕ) (l : Layer) → fold-Raw A B step proj (raw_at at (roll-RawForm l)) ≡ proj (record { at = at; form = step (through l) })
  layer_fold at l =
      let m : Raw-F RawForm Raw = record { at = at; form = roll-RawForm l } in
      fold-roll-Raw A B step proj m ∙ ap (λ (w : A). proj (record { at = at; form = w })) (fold-roll-RawForm A B step proj l)

abbrev pub kinds_through : Layer → RawForm-F Kinds Kinds
kinds_through = through Kinds Kinds expr_kinds_step (λ r. r.form)

abbrev pub lawful_through : Layer → RawForm-F Bool Bool
lawful_through = through Bool Bool is_lawful_step (λ r. r.form)

abbrev pub within_through : Layer → RawForm-F Levels Levels
within_through = through Levels Levels within_step (λ r. level r.form)

-- one layer without its places
abbrev bare_form : Layer → RawForm
bare_form l = unplaced_step (through RawForm Raw unplaced_step (λ r. raw_at 0 r.form) l)

kinds_layer : (at : ℕ) (l : Layer) → expr_kinds (raw_at at (roll-RawForm l)) ≡ expr_kinds_step (kinds_through l)
kinds_layer = layer_fold Kinds Kinds expr_kinds_step (λ r. r.form)

pub lawful_layer : (at : ℕ) (l : Layer) → is_lawful (raw_at at (roll-RawForm l)) ≡ is_lawful_step (lawful_through l)
lawful_layer = layer_fold Bool Bool is_lawful_step (λ r. r.form)

pub within_layer : (n at : ℕ) (l : Layer) → expr_within (raw_at at (roll-RawForm l)) n ≡ level (within_step (within_through l)) n
within_layer n at l = ap (λ (g : Levels). g n) (layer_fold Levels Levels within_step (λ r. level r.form) at l)

bare_layer : (at : ℕ) (l : Layer) → unplaced_expr (raw_at at (roll-RawForm l)) ≡ raw_at 0 (bare_form l)
bare_layer = layer_fold RawForm Raw unplaced_step (λ r. raw_at 0 r.form)

-- expressions whose parts are the same, places apart, are
same_by : (a at : ℕ) (w : RawForm) (l m : Layer) → roll-RawForm l ≡ w → bare_form l ≡ bare_form m → unplaced_expr (raw_at a w) ≡ unplaced_expr (raw_at at (roll-RawForm m))
same_by a at w l m r e = ap (λ (v : RawForm). unplaced_expr (raw_at a v)) (sym r) ∙ bare_layer a l ∙ ap (raw_at 0) e ∙ sym (bare_layer at m)

-- both conditions on an expression of at most so many levels
abbrev pub allowed : ℕ → Raw → Bool
allowed n x = is_lawful x && expr_within x n

pub all_allowed : (n : ℕ) (xs : List Raw) → list_all (λ (a : Bool). a) (map is_lawful xs) ≡ true → all_within (map expr_within xs) n ≡ true → list_all (allowed n) xs ≡ true
all_allowed n [] h w = refl
all_allowed n (x ∷ xs) h w =
    let p = both_true (is_lawful x) (list_all (λ (a : Bool). a) (map is_lawful xs)) h in
    let q = both_true (expr_within x n) (all_within (map expr_within xs) n) w in
    true_both (allowed n x) (list_all (allowed n) xs) (true_both (is_lawful x) (expr_within x n) p.0 q.0) (all_allowed n xs p.1 q.1)

abbrev PlacedExpr : ℕ → Raw → List Token → Type 0
PlacedExpr n = Placed (IsExprOf n) unplaced_expr

abbrev Known : ℕ → Type 0
Known n = (x : Raw) → allowed n x ≡ true → (ts : List Token) → kinds ts ≡ expr_kinds x → PlacedExpr n x ts

module _ (n : ℕ) (known : Known n) where
  abbrev Case : Raw → List Token → Type 0
  Case = ExprCase (IsTypeOf n) (IsExprOf n)

  abbrev Result : ℕ → Layer → List Token → Type 0
  Result at l = Placed Case unplaced_expr (raw_at at (roll-RawForm l))

  known_by : (x : Raw) → is_lawful x ≡ true → expr_within x n ≡ true → (ts : List Token) → kinds ts ≡ expr_kinds x → PlacedExpr n x ts
  known_by x h w ts e = known x (true_both (is_lawful x) (expr_within x n) h w) ts e

  each_known : (xs : List Raw) → list_all (λ (a : Bool). a) (map is_lawful xs) ≡ true → all_within (map expr_within xs) n ≡ true → (ts : List Token) → kinds ts ≡ run_together (map expr_kinds xs) → Placed (AreAll (IsExprOf n)) (map unplaced_expr) xs ts
  each_known xs h w = all_placed (IsExprOf n) unplaced_expr expr_kinds (allowed n) known xs (all_allowed n xs h w)

  int_placed : (at : ℕ) (z : ℤ) (ts : List Token) → kinds ts ≡ k.Num z ∷ [] → Result at (o.Int z) ts
  int_placed at z ts e = ending (Result at (o.Int z)) (k.Num z) (λ a. record { y = raw_at a (f.Int z); is = number a z; same = same_by a at (f.Int z) (o.Int z) (o.Int z) (f.rolls-Int z) refl }) ts e

  text_placed : (at : ℕ) (s : List ℕ) (ts : List Token) → kinds ts ≡ k.Str s ∷ [] → Result at (o.Text s) ts
  text_placed at s ts e = ending (Result at (o.Text s)) (k.Str s) (λ a. record { y = raw_at a (f.Text s); is = text a s; same = same_by a at (f.Text s) (o.Text s) (o.Text s) (f.rolls-Text s) refl }) ts e

  bool_placed : (at : ℕ) (q : Bool) (ts : List Token) → kinds ts ≡ k.Name (bool_word q) ∷ [] → Result at (o.Bool q) ts
  bool_placed at q ts e = ending (Result at (o.Bool q)) (k.Name (bool_word q)) (λ a. record { y = raw_at a (f.Bool q); is = true_or_false a q; same = same_by a at (f.Bool q) (o.Bool q) (o.Bool q) (f.rolls-Bool q) refl }) ts e

  name_placed : (at : ℕ) (s : List ℕ) → is_user s ≡ true → (ts : List Token) → kinds ts ≡ k.Name s ∷ [] → Result at (o.Name s) ts
  name_placed at s h ts e =
      ending (Result at (o.Name s)) (k.Name s) (λ a.
      let x : Spot = record { at = a; text = s } in
      record { y = raw_at a (f.Name s); is = name x (user x h a); same = same_by a at (f.Name s) (o.Name s) (o.Name s) (f.rolls-Name s) refl }) ts e

  one_placed : (at : ℕ) (op : Unary) (con : Raw → Layer) → ((x : Raw) → roll-RawForm (con x) ≡ unary_form op x) → ((x : Raw) → bare_form (con x) ≡ roll-RawForm (con (unplaced_expr x)))
      → (x : Raw) → is_lawful x ≡ true → expr_within x n ≡ true → (ts : List Token) → kinds ts ≡ form (unary_word op) (expr_kinds x) → Result at (con x) ts
  one_placed at op con rolls bare x h w ts e =
      let P = Result at (con x) in
      opening P (unary_word op) (expr_kinds x) (λ a b us d.
      closing (λ vs. P (left_at a ∷ name_at b (unary_word op) ∷ vs)) (expr_kinds x) (λ xs c g.
      let p = known_by x h w xs g in
      record {
        y = raw_at a (unary_form op p.y);
        is = form_of_one a b c op p.y xs p.is;
        same = same_by a at (unary_form op p.y) (con p.y) (con x) (rolls p.y) (bare p.y ∙ ap (λ (v : Raw). roll-RawForm (con v)) p.same ∙ sym (bare x));
      }) us d) ts e

  two_placed : (at : ℕ) (op : Binary) (con : Raw → Raw → Layer) → ((x y : Raw) → roll-RawForm (con x y) ≡ binary_form op x y) → ((x y : Raw) → bare_form (con x y) ≡ roll-RawForm (con (unplaced_expr x) (unplaced_expr y)))
      → (x y : Raw) → is_lawful x && is_lawful y ≡ true → expr_within x n && expr_within y n ≡ true → (ts : List Token) → kinds ts ≡ form (binary_word op) (expr_kinds x ++ expr_kinds y) → Result at (con x y) ts
  two_placed at op con rolls bare x y h w ts e =
      let P = Result at (con x y) in
      let hs = both_true (is_lawful x) (is_lawful y) h in
      let ws = both_true (expr_within x n) (expr_within y n) w in
      opening P (binary_word op) (expr_kinds x ++ expr_kinds y) (λ a b us d.
      closing_two (λ vs. P (left_at a ∷ name_at b (binary_word op) ∷ vs)) (expr_kinds x) (expr_kinds y) (λ xs ys c g m.
      let p = known_by x hs.0 ws.0 xs g in
      let q = known_by y hs.1 ws.1 ys m in
      record {
        y = raw_at a (binary_form op p.y q.y);
        is = form_of_two a b c op p.y q.y xs ys p.is q.is;
        same = same_by a at (binary_form op p.y q.y) (con p.y q.y) (con x y) (rolls p.y q.y) (bare p.y q.y ∙ (λ i. roll-RawForm (con (p.same i) (q.same i))) ∙ sym (bare x y));
      }) us d) ts e

  three_placed : (at : ℕ) (op : Ternary) (con : Raw → Raw → Raw → Layer) → ((x y z : Raw) → roll-RawForm (con x y z) ≡ ternary_form op x y z)
      → ((x y z : Raw) → bare_form (con x y z) ≡ roll-RawForm (con (unplaced_expr x) (unplaced_expr y) (unplaced_expr z)))
      → (x y z : Raw) → is_lawful x && is_lawful y && is_lawful z ≡ true → expr_within x n && expr_within y n && expr_within z n ≡ true
      → (ts : List Token) → kinds ts ≡ form (ternary_word op) (expr_kinds x ++ expr_kinds y ++ expr_kinds z) → Result at (con x y z) ts
  three_placed at op con rolls bare x y z h w ts e =
      let P = Result at (con x y z) in
      let h0 = both_true (is_lawful x && is_lawful y) (is_lawful z) h in
      let hs = both_true (is_lawful x) (is_lawful y) h0.0 in
      let w0 = both_true (expr_within x n && expr_within y n) (expr_within z n) w in
      let ws = both_true (expr_within x n) (expr_within y n) w0.0 in
      opening P (ternary_word op) (expr_kinds x ++ expr_kinds y ++ expr_kinds z) (λ a b us d.
      closing_three (λ vs. P (left_at a ∷ name_at b (ternary_word op) ∷ vs)) (expr_kinds x) (expr_kinds y) (expr_kinds z) (λ xs ys zs c g m s.
      let p = known_by x hs.0 ws.0 xs g in
      let q = known_by y hs.1 ws.1 ys m in
      let r = known_by z h0.1 w0.1 zs s in
      record {
        y = raw_at a (ternary_form op p.y q.y r.y);
        is = form_of_three a b c op p.y q.y r.y xs ys zs p.is q.is r.is;
        same = same_by a at (ternary_form op p.y q.y r.y) (con p.y q.y r.y) (con x y z) (rolls p.y q.y r.y) (bare p.y q.y r.y ∙ (λ i. roll-RawForm (con (p.same i) (q.same i) (r.same i))) ∙ sym (bare x y z));
      }) us d) ts e

  let_placed : (at : ℕ) (s : Spot) (x y : Raw) → is_lawful x && is_lawful y ≡ true → is_user_spot s && expr_within x n && expr_within y n ≡ true
      → (ts : List Token) → kinds ts ≡ form (codes "let") (spot_kind s ∷ expr_kinds x ++ expr_kinds y) → Result at (o.Let s x y) ts
  let_placed at s x y h w ts e =
      let P = Result at (o.Let s x y) in
      let hs = both_true (is_lawful x) (is_lawful y) h in
      let w0 = both_true (is_user_spot s && expr_within x n) (expr_within y n) w in
      let ws = both_true (is_user_spot s) (expr_within x n) w0.0 in
      opening P (codes "let") (spot_kind s ∷ expr_kinds x ++ expr_kinds y) (λ a b us d.
      one (λ vs. P (left_at a ∷ name_at b (codes "let") ∷ vs)) (spot_kind s) ((expr_kinds x ++ expr_kinds y) ++ k.Right ∷ []) (λ v us d.
      let w : Spot = record { at = v; text = s.text } in
      closing_two (λ vs. P (left_at a ∷ name_at b (codes "let") ∷ name_of w ∷ vs)) (expr_kinds x) (expr_kinds y) (λ xs ys c g m.
      let p = known_by x hs.0 ws.1 xs g in
      let q = known_by y hs.1 w0.1 ys m in
      record {
        y = raw_at a (f.Let w p.y q.y);
        is = let_form a b c w p.y q.y xs ys (user s ws.0 v) p.is q.is;
        same = same_by a at (f.Let w p.y q.y) (o.Let w p.y q.y) (o.Let s x y) (f.rolls-Let w p.y q.y) (λ i. f.Let (unplaced_spot s) (p.same i) (q.same i));
      }) us d) us d) ts e

  some : (xs ys : List Raw) → map unplaced_expr ys ≡ map unplaced_expr xs → nat_le 1 (length (map is_lawful xs)) ≡ true → 0 < length ys
  some xs ys e h = let l = as_long unplaced_expr xs ys e in let m = length-map xs is_lawful in grind (arith, common_steps)

  few : (xs ys : List Raw) → map unplaced_expr ys ≡ map unplaced_expr xs → nat_le (length (map is_lawful xs)) most ≡ true → length ys ≤ 1024
  few xs ys e h = let l = as_long unplaced_expr xs ys e in let m = length-map xs is_lawful in grind (arith, common_steps)

  list_placed : (at : ℕ) (xs : List Raw) → list_all (λ (a : Bool). a) (map is_lawful xs) && nat_le 1 (length (map is_lawful xs)) && nat_le (length (map is_lawful xs)) most ≡ true → all_within (map expr_within xs) n ≡ true
      → (ts : List Token) → kinds ts ≡ form (codes "list") (run_together (map expr_kinds xs)) → Result at (o.List xs) ts
  list_placed at xs h w ts e =
      let P = Result at (o.List xs) in
      let h0 = both_true (list_all (λ (a : Bool). a) (map is_lawful xs) && nat_le 1 (length (map is_lawful xs))) (nat_le (length (map is_lawful xs)) most) h in
      let hs = both_true (list_all (λ (a : Bool). a) (map is_lawful xs)) (nat_le 1 (length (map is_lawful xs))) h0.0 in
      opening P (codes "list") (run_together (map expr_kinds xs)) (λ a b us d.
      closing (λ vs. P (left_at a ∷ name_at b (codes "list") ∷ vs)) (run_together (map expr_kinds xs)) (λ vs c g.
      let p = each_known xs hs.0 w vs g in
      record {
        y = raw_at a (f.List p.y);
        is = list_form a b c p.y vs (some xs p.y p.same hs.1) (few xs p.y p.same h0.1) p.is;
        same = same_by a at (f.List p.y) (o.List p.y) (o.List xs) (f.rolls-List p.y) (ap (λ (v : List Raw). roll-RawForm (o.List v)) p.same);
      }) us d) ts e

  nil_placed : (at : ℕ) (x : RawTy) → ty_within x n ≡ true → (ts : List Token) → kinds ts ≡ form (codes "nil") (ty_kinds x) → Result at (o.Nil x) ts
  nil_placed at x w ts e =
      let P = Result at (o.Nil x) in
      opening P (codes "nil") (ty_kinds x) (λ a b us d.
      closing (λ vs. P (left_at a ∷ name_at b (codes "nil") ∷ vs)) (ty_kinds x) (λ xs c g.
      let p = types_placed n x w xs g in
      record {
        y = raw_at a (f.Nil p.y);
        is = nil_form a b c p.y xs p.is;
        same = same_by a at (f.Nil p.y) (o.Nil p.y) (o.Nil x) (f.rolls-Nil p.y) (ap f.Nil p.same);
      }) us d) ts e

  close_placed : (at : ℕ) (s : Spot) (xs : List Raw) → list_all (λ (a : Bool). a) (map is_lawful xs) ≡ true → is_user_spot s && all_within (map expr_within xs) n ≡ true
      → (ts : List Token) → kinds ts ≡ form (codes "close") (spot_kind s ∷ run_together (map expr_kinds xs)) → Result at (o.Close s xs) ts
  close_placed at s xs h w ts e =
      let P = Result at (o.Close s xs) in
      let ws = both_true (is_user_spot s) (all_within (map expr_within xs) n) w in
      opening P (codes "close") (spot_kind s ∷ run_together (map expr_kinds xs)) (λ a b us d.
      one (λ vs. P (left_at a ∷ name_at b (codes "close") ∷ vs)) (spot_kind s) (run_together (map expr_kinds xs) ++ k.Right ∷ []) (λ v us d.
      let w : Spot = record { at = v; text = s.text } in
      closing (λ vs. P (left_at a ∷ name_at b (codes "close") ∷ name_of w ∷ vs)) (run_together (map expr_kinds xs)) (λ vs c g.
      let p = each_known xs h ws.1 vs g in
      record {
        y = raw_at a (f.Close w p.y);
        is = close_form a b c w p.y vs (user s ws.0 v) p.is;
        same = same_by a at (f.Close w p.y) (o.Close w p.y) (o.Close s xs) (f.rolls-Close w p.y) (ap (f.Close (unplaced_spot s)) p.same);
      }) us d) us d) ts e

  layer_placed : (l : Layer) → is_lawful_step (lawful_through l) ≡ true → within_step (within_through l) n ≡ true → (ts : List Token) → kinds ts ≡ expr_kinds_step (kinds_through l) → (at : ℕ) → Result at l ts
  layer_placed (o.Int z) h w ts e at = int_placed at z ts e
  layer_placed (o.Bool true) h w ts e at = bool_placed at true ts e
  layer_placed (o.Bool false) h w ts e at = bool_placed at false ts e
  layer_placed (o.Text s) h w ts e at = text_placed at s ts e
  layer_placed (o.Name s) h w ts e at = name_placed at s w ts e
  layer_placed (o.Neg x) h w ts e at = one_placed at u.Neg o.Neg f.rolls-Neg (λ x. refl) x h w ts e
  layer_placed (o.Not x) h w ts e at = one_placed at u.Not o.Not f.rolls-Not (λ x. refl) x h w ts e
  layer_placed (o.First x) h w ts e at = one_placed at u.First o.First f.rolls-First (λ x. refl) x h w ts e
  layer_placed (o.Second x) h w ts e at = one_placed at u.Second o.Second f.rolls-Second (λ x. refl) x h w ts e
  layer_placed (o.Len x) h w ts e at = one_placed at u.Len o.Len f.rolls-Len (λ x. refl) x h w ts e
  layer_placed (o.Show x) h w ts e at = one_placed at u.Show o.Show f.rolls-Show (λ x. refl) x h w ts e
  layer_placed (o.Let s x y) h w ts e at = let_placed at s x y h w ts e
  layer_placed (o.Add x y) h w ts e at = two_placed at b.Add o.Add f.rolls-Add (λ x y. refl) x y h w ts e
  layer_placed (o.Sub x y) h w ts e at = two_placed at b.Sub o.Sub f.rolls-Sub (λ x y. refl) x y h w ts e
  layer_placed (o.Mul x y) h w ts e at = two_placed at b.Mul o.Mul f.rolls-Mul (λ x y. refl) x y h w ts e
  layer_placed (o.Div x y) h w ts e at = two_placed at b.Div o.Div f.rolls-Div (λ x y. refl) x y h w ts e
  layer_placed (o.Rem x y) h w ts e at = two_placed at b.Rem o.Rem f.rolls-Rem (λ x y. refl) x y h w ts e
  layer_placed (o.Lt x y) h w ts e at = two_placed at b.Lt o.Lt f.rolls-Lt (λ x y. refl) x y h w ts e
  layer_placed (o.Eq x y) h w ts e at = two_placed at b.Eq o.Eq f.rolls-Eq (λ x y. refl) x y h w ts e
  layer_placed (o.And x y) h w ts e at = two_placed at b.And o.And f.rolls-And (λ x y. refl) x y h w ts e
  layer_placed (o.Or x y) h w ts e at = two_placed at b.Or o.Or f.rolls-Or (λ x y. refl) x y h w ts e
  layer_placed (o.Pair x y) h w ts e at = two_placed at b.Pair o.Pair f.rolls-Pair (λ x y. refl) x y h w ts e
  layer_placed (o.Append x y) h w ts e at = two_placed at b.Append o.Append f.rolls-Append (λ x y. refl) x y h w ts e
  layer_placed (o.Cat x y) h w ts e at = two_placed at b.Cat o.Cat f.rolls-Cat (λ x y. refl) x y h w ts e
  layer_placed (o.If x y z) h w ts e at = three_placed at t.If o.If f.rolls-If (λ x y z. refl) x y z h w ts e
  layer_placed (o.At x y z) h w ts e at = three_placed at t.At o.At f.rolls-At (λ x y z. refl) x y z h w ts e
  layer_placed (o.List xs) h w ts e at = list_placed at xs h w ts e
  layer_placed (o.Nil x) h w ts e at = nil_placed at x w ts e
  layer_placed (o.Close s xs) h w ts e at = close_placed at s xs h w ts e

-- an expression, opened
abbrev pub form_in : Raw → Layer
form_in x = out-RawForm (out-Raw x).form

pub opened : (x : Raw) → raw_at (out-Raw x).at (roll-RawForm (form_in x)) ≡ x
opened x = ap (λ (w : RawForm). raw_at (out-Raw x).at w) (roll-out-RawForm (out-Raw x).form) ∙ roll-out-Raw x

pub lawful_opened : (x : Raw) → is_lawful x ≡ true → is_lawful_step (lawful_through (form_in x)) ≡ true
lawful_opened x h = sym (lawful_layer (out-Raw x).at (form_in x)) ∙ ap is_lawful (opened x) ∙ h

pub within_opened : (n : ℕ) (x : Raw) → expr_within x n ≡ true → level (within_step (within_through (form_in x))) n ≡ true
within_opened n x w = sym (within_layer n (out-Raw x).at (form_in x)) ∙ ap (λ (y : Raw). expr_within y n) (opened x) ∙ w

pub kinds_opened : (x : Raw) → expr_kinds x ≡ expr_kinds_step (kinds_through (form_in x))
kinds_opened x = ap expr_kinds (sym (opened x)) ∙ kinds_layer (out-Raw x).at (form_in x)

exprs_placed : (n : ℕ) → Known n
unfolding IsExprOf
exprs_placed zero x h ts e = let g : level (within_step (within_through (form_in x))) 0 ≡ true = within_opened 0 x (both_true (is_lawful x) (expr_within x 0) h).1 in absurd cc
exprs_placed (suc n) x h ts e =
    let p = both_true (is_lawful x) (expr_within x (suc n)) h in
    subst (λ (y : Raw). PlacedExpr (suc n) y ts) (opened x)
    (layer_placed n (exprs_placed n) (form_in x) (lawful_opened x p.0) (within_opened (suc n) x p.1) ts (e ∙ kinds_opened x) (out-Raw x).at)

-- tokens of the kinds of a lawful expression are that expression, places apart
pub expr_placed : (x : Raw) → is_lawful_expr x ≡ true → (ts : List Token) → kinds ts ≡ expr_kinds x → Placed IsExpr unplaced_expr x ts
expr_placed = exprs_placed 16
