-- The core file of a file with lawful expressions has lawful expressions.
use Rattle.std.proofs.Common.{◌≡◌, ℕ, ◌+◌, Bool, true, List, [], ◌∷◌, ◌++◌, map, refl, sym, ap, ◌∙◌}
use Rattle.std.specs.Prelude.{◌&&◌}
use Rattle.std.specs.List.{list_all}
use Rattle.std.proofs.lemmas.List.Folds.{list_all-append, list_all-map}
use Rattle.frp_base.specs.declared.text.Text.{Text}
use Rattle.frp_expr.specs.declared.raw.Raw.{Raw, fold-roll-Raw}
use Rattle.frp_expr.specs.declared.raw.RawForm.{RawForm, RawForm-F, roll-RawForm, fold-RawForm, fold-roll-RawForm, map-RawForm}
use Rattle.frp_expr.specs.declared.raw.RawForm.TheOpen as o
use Rattle.frp_expr.specs.declared.raw.RawForm.TheVariants as e
use Rattle.frp_expr.specs.declared.raw.Spot.{Spot}
use Rattle.frp_expr.specs.Raw.{is_lawful_step, is_lawful}
use Rattle.frp_base.proofs.Booleans.{both_true, true_both}
use Rattle.frp_base.proofs.Lists.{all_appended}
use Rattle.frp_file.specs.declared.file.Decl.{Decl}
use Rattle.frp_file.specs.declared.file.Decl.TheVariants as d
use Rattle.frp_file.specs.declared.file.File.{File}
use Rattle.frp_file.specs.declared.file.Function.{Function}
use Rattle.frp_file.specs.declared.file.Item.{Item}
use Rattle.frp_file.specs.declared.file.ItemForm.{ItemForm}
use Rattle.frp_file.specs.declared.file.ItemForm.TheVariants.{Sink, Cellsink, Let, Tie, Get}
use Rattle.frp_file.specs.declared.file.ShapeForm.{ShapeForm}
use Rattle.frp_file.specs.declared.file.ShapeForm.TheVariants.{Orelse, Gate, Once, Accum, Collect, Lift2, Defer}
use Rattle.frp_file.specs.LawfulParts.{are_shape_parts_lawful, are_item_parts_lawful, are_decl_parts_lawful, are_sender_parts_lawful, has_lawful_parts}
use Rattle.frp_sugar.specs.Made.{spot, raw, name, bool, pair, first, second, list, close, u, v, w}
use Rattle.frp_sugar.specs.Table.{let_items, shape_functions}
use Rattle.frp_sugar.specs.Expanding.{form_items, form_functions, form_hidden, form_hidden_functions, body_items, body_functions, decl_decls, decl_hidden, decl_hidden_functions, graph_decls, expanded}

abbrev Lawful : Raw → Type 0
Lawful x = is_lawful x ≡ true

-- two tests, and three, are passed
two : {a b : Bool} → a ≡ true → b ≡ true → a && b ≡ true
two h k = true_both _ _ h k

three : {a b c : Bool} → a ≡ true → b ≡ true → c ≡ true → a && b && c ≡ true
three h k l = two (two h k) l

-- ---- made expressions

abbrev form_lawful : RawForm → Bool
form_lawful = fold-RawForm Bool Bool is_lawful_step (λ r. r.form)

abbrev step_lawful : RawForm-F RawForm Raw → Bool
step_lawful l = is_lawful_step (map-RawForm RawForm Raw Bool Bool form_lawful is_lawful l)

-- an expression is lawful where its form is
opens : (p : ℕ) (form : RawForm) (l : RawForm-F RawForm Raw) → roll-RawForm l ≡ form → is_lawful (raw p form) ≡ step_lawful l
opens p form l h = fold-roll-Raw Bool Bool is_lawful_step (λ r. r.form) (record { at = p; form = form }) ∙ ap form_lawful (sym h) ∙ fold-roll-RawForm Bool Bool is_lawful_step (λ r. r.form) l

module _ (p : ℕ) where
  a_name : (t : Text) → Lawful (name p t)
  a_name t = opens p (e.Name t) (o.Name t) (e.rolls-Name t)

  a_bool : (b : Bool) → Lawful (bool p b)
  a_bool b = opens p (e.Bool b) (o.Bool b) (e.rolls-Bool b)

  a_pair : (x y : Raw) → Lawful x → Lawful y → Lawful (pair p x y)
  a_pair x y h k = opens p (e.Pair x y) (o.Pair x y) (e.rolls-Pair x y) ∙ two h k

  a_first : (x : Raw) → Lawful x → Lawful (first p x)
  a_first x h = opens p (e.First x) (o.First x) (e.rolls-First x) ∙ h

  a_second : (x : Raw) → Lawful x → Lawful (second p x)
  a_second x h = opens p (e.Second x) (o.Second x) (e.rolls-Second x) ∙ h

  a_list : (x : Raw) → Lawful x → Lawful (list p x)
  a_list x h = opens p (e.List (x ∷ [])) (o.List (x ∷ [])) (e.rolls-List (x ∷ [])) ∙ two (two (two h refl) refl) refl

  a_close : (f : Text) (x : Raw) → Lawful x → Lawful (close p f x)
  a_close f x h = opens p (e.Close (spot p f) (x ∷ [])) (o.Close (spot p f) (x ∷ [])) (e.rolls-Close (spot p f) (x ∷ [])) ∙ two h refl

  -- the pair of the names that the rows write
  pair_of_names : Lawful (pair p (name p (u p).text) (name p (v p).text))
  pair_of_names = a_pair _ _ (a_name _) (a_name _)

  first_of_name : Lawful (first p (name p (w p).text))
  first_of_name = a_first _ (a_name _)

  second_of_name : Lawful (second p (name p (w p).text))
  second_of_name = a_second _ (a_name _)

-- ---- the table

abbrev item_test : Item → Bool
item_test i = are_item_parts_lawful i.form

abbrev function_test : Function → Bool
function_test f = is_lawful f.e

abbrev AreLawful : List Item → Type 0
AreLawful is = list_all item_test is ≡ true

parts_of_three : (x y z : Raw) → is_lawful x && is_lawful y && is_lawful z ≡ true → Lawful x × Lawful y × Lawful z
parts_of_three x y z h =
    let q = both_true (is_lawful x && is_lawful y) (is_lawful z) h in
    let r = both_true (is_lawful x) (is_lawful y) q.0 in
    (r.0, r.1, q.1)

module _ (at : ℕ) (x : Spot) (p : ℕ) (n m : ℕ) where
  let_lawful : (s : ShapeForm) → are_shape_parts_lawful s ≡ true → AreLawful (let_items at x p n m s)
  let_lawful (Orelse a b) h = two (two h (a_name p _)) refl
  let_lawful (Gate s c) h =
      two (two h (pair_of_names p))
      (two (two (a_name p _) (second_of_name p))
      (two (two (a_name p _) (first_of_name p)) refl))
  let_lawful (Once s) h =
      two (two h (a_bool p _))
      (two (two (a_bool p _) (a_name p _))
      (two (three h (a_name p _) (pair_of_names p))
      (two (two (a_name p _) (second_of_name p))
      (two (two (a_name p _) (first_of_name p)) refl))))
  let_lawful (Accum ty y z s o e) h =
      let q = parts_of_three s o e h in
      two refl
      (two (three q.0 (a_name p _) q.2)
      (two (two q.1 (a_name p _)) refl))
  let_lawful (Collect ty y z s o e) h =
      let q = parts_of_three s o e h in
      two refl
      (two (three q.0 (a_name p _) q.2)
      (two (two (a_name p _) (second_of_name p))
      (two (two q.1 (a_name p _))
      (two (two (a_name p _) (first_of_name p)) refl))))
  let_lawful (Lift2 y z ca cb e) h =
      let q = parts_of_three ca cb e h in
      two (two q.0 (a_close p _ _ (a_name p _)))
      (two (two (a_name p _) q.1) refl)
  let_lawful (Defer s) h =
      two (two h (a_list p _ (a_name p _)))
      (two (a_name p _) refl)
  let_lawful s h = two h refl

shape_functions_lawful : (p m : ℕ) (s : ShapeForm) → are_shape_parts_lawful s ≡ true → list_all function_test (shape_functions p m s) ≡ true
shape_functions_lawful p m (Lift2 y z ca cb e) h = two (parts_of_three ca cb e h).2 refl
shape_functions_lawful p m _ h = refl

-- ---- items, and bodies

form_lawful_items : (at n m : ℕ) (form : ItemForm) → are_item_parts_lawful form ≡ true → AreLawful (form_items at n m form)
form_lawful_items at n m (Let x shape) h = let_lawful at x shape.at n m shape.form h
form_lawful_items at n m (Cellsink s c ty o) h = two (two h (a_name at _)) refl
form_lawful_items at n m (Sink s ty) h = refl
form_lawful_items at n m (Tie l x) h = refl
form_lawful_items at n m (Get x c) h = two h refl

form_lawful_functions : (m : ℕ) (form : ItemForm) → are_item_parts_lawful form ≡ true → list_all function_test (form_functions m form) ≡ true
form_lawful_functions m (Let x shape) h = shape_functions_lawful shape.at m shape.form h
form_lawful_functions m _ h = refl

body_lawful_items : (n m : ℕ) (is : List Item) → AreLawful is → AreLawful (body_items n m is)
body_lawful_items n m [] h = refl
body_lawful_items n m (i ∷ is) h =
    let q = both_true (item_test i) (list_all item_test is) h in
    all_appended item_test (form_items i.at n m i.form) _ (form_lawful_items i.at n m i.form q.0) (body_lawful_items (n + form_hidden i.form) (m + form_hidden_functions i.form) is q.1)

body_lawful_functions : (m : ℕ) (is : List Item) → AreLawful is → list_all function_test (body_functions m is) ≡ true
body_lawful_functions m [] h = refl
body_lawful_functions m (i ∷ is) h =
    let q = both_true (item_test i) (list_all item_test is) h in
    all_appended function_test (form_functions m i.form) _ (form_lawful_functions m i.form q.0) (body_lawful_functions (m + form_hidden_functions i.form) is q.1)

-- ---- declarations, and files

functions_lawful : (fs : List Function) → list_all function_test fs ≡ true → list_all are_decl_parts_lawful (map d.Function fs) ≡ true
functions_lawful fs h = list_all-map are_decl_parts_lawful d.Function fs ∙ h

items_lawful : (is : List Item) → AreLawful is → list_all are_decl_parts_lawful (map d.Item is) ≡ true
items_lawful is h = list_all-map are_decl_parts_lawful d.Item is ∙ h

decl_lawful : (n m : ℕ) (x : Decl) → are_decl_parts_lawful x ≡ true → list_all are_decl_parts_lawful (decl_decls n m x) ≡ true
decl_lawful n m (d.Template t) h =
    let q = both_true (list_all item_test t.items) (is_lawful t.give.e) h in
    all_appended are_decl_parts_lawful (map d.Function (body_functions m t.items)) _ (functions_lawful _ (body_lawful_functions m t.items q.0)) (two (two (body_lawful_items 0 m t.items q.0) q.1) refl)
decl_lawful n m (d.Function f) h = two h refl
decl_lawful n m (d.Item i) h =
    all_appended are_decl_parts_lawful (map d.Function (form_functions m i.form)) _ (functions_lawful _ (form_lawful_functions m i.form h)) (items_lawful (form_items i.at n m i.form) (form_lawful_items i.at n m i.form h))

decls_lawful : (n m : ℕ) (ds : List Decl) → list_all are_decl_parts_lawful ds ≡ true → list_all are_decl_parts_lawful (graph_decls n m ds) ≡ true
decls_lawful n m [] h = refl
decls_lawful n m (x ∷ xs) h =
    let q = both_true (are_decl_parts_lawful x) (list_all are_decl_parts_lawful xs) h in
    all_appended are_decl_parts_lawful (decl_decls n m x) _ (decl_lawful n m x q.0) (decls_lawful (n + decl_hidden x) (m + decl_hidden_functions x) xs q.1)

pub lawful_kept : (f : File) → has_lawful_parts f ≡ true → has_lawful_parts (expanded f) ≡ true
lawful_kept f h =
    let q = both_true (list_all are_decl_parts_lawful f.graph.decls) (list_all are_sender_parts_lawful f.senders) h in
    two (decls_lawful 0 0 f.graph.decls q.0) q.1
