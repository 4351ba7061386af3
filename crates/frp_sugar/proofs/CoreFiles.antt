-- An expanded file has no derived form, and a file without any stands for itself.
use Rattle.std.proofs.Common.{◌≡◌, ℕ, ◌+◌, Bool, true, false, List, [], ◌∷◌, ◌++◌, map, refl, ◌∙◌}
use Rattle.std.specs.List.{list_all}
use Rattle.std.proofs.lemmas.List.Folds.{list_all-append, list_all-map}
use Rattle.frp_expr.specs.declared.raw.Spot.{Spot}
use Rattle.frp_base.proofs.Booleans.{both_true, true_both, not_true}
use Rattle.frp_base.proofs.Lists.{all_appended}
use Rattle.frp_file.specs.declared.file.Decl.{Decl}
use Rattle.frp_file.specs.declared.file.Decl.TheVariants as d
use Rattle.frp_file.specs.declared.file.File.{File}
use Rattle.frp_file.specs.declared.file.Function.{Function}
use Rattle.frp_file.specs.declared.file.Item.{Item}
use Rattle.frp_file.specs.declared.file.ItemForm.{ItemForm}
use Rattle.frp_file.specs.declared.file.ItemForm.TheVariants.{Cellsink, Let}
use Rattle.frp_file.specs.declared.file.ShapeForm.{ShapeForm}
use Rattle.frp_file.specs.declared.file.ShapeForm.TheVariants.{Orelse, Gate, Once, Accum, Collect, Lift2, Defer}
use Rattle.frp_sugar.specs.Made.{bound}
use Rattle.frp_sugar.specs.Table.{let_items, shape_functions}
use Rattle.frp_sugar.specs.Expanding.{form_items, form_functions, form_hidden, form_hidden_functions, body_items, body_functions, decl_decls, decl_hidden, decl_hidden_functions, graph_decls, expanded}
use Rattle.frp_sugar.specs.Derived.{is_derived, is_core_form, are_core_items, has_no_derived_form, is_core_file}

-- What stands for each is core.

core_row : (at : ℕ) (x : Spot) (p n m : ℕ) (s : ShapeForm) → are_core_items (let_items at x p n m s) ≡ true
core_row at x p n m (Orelse a b) = refl
core_row at x p n m (Gate s c) = refl
core_row at x p n m (Once s) = refl
core_row at x p n m (Accum ty y z s o e) = refl
core_row at x p n m (Collect ty y z s o e) = refl
core_row at x p n m (Lift2 y z ca cb e) = refl
core_row at x p n m (Defer s) = refl
core_row at x p n m _ = refl

core_items : (at n m : ℕ) (f : ItemForm) → are_core_items (form_items at n m f) ≡ true
core_items at n m (Let x s) = core_row at x s.at n m s.form
core_items at n m (Cellsink s c ty o) = refl
core_items at n m _ = refl

core_body : (n m : ℕ) (is : List Item) → are_core_items (body_items n m is) ≡ true
core_body n m [] = refl
core_body n m (i ∷ is) =
    all_appended (λ j. is_core_form j.form) (form_items i.at n m i.form) _ (core_items i.at n m i.form) (core_body (n + form_hidden i.form) (m + form_hidden_functions i.form) is)

core_functions : (fs : List Function) → list_all has_no_derived_form (map d.Function fs) ≡ true
core_functions [] = refl
core_functions (f ∷ fs) = core_functions fs

core_decl : (n m : ℕ) (x : Decl) → list_all has_no_derived_form (decl_decls n m x) ≡ true
core_decl n m (d.Template t) =
    all_appended has_no_derived_form (map d.Function (body_functions m t.items)) _ (core_functions (body_functions m t.items)) (true_both _ true (core_body 0 m t.items) refl)
core_decl n m (d.Function f) = refl
core_decl n m (d.Item i) =
    all_appended has_no_derived_form (map d.Function (form_functions m i.form)) _ (core_functions (form_functions m i.form))
    (list_all-map has_no_derived_form d.Item (form_items i.at n m i.form) ∙ core_items i.at n m i.form)

core_graph : (n m : ℕ) (ds : List Decl) → list_all has_no_derived_form (graph_decls n m ds) ≡ true
core_graph n m [] = refl
core_graph n m (x ∷ xs) =
    all_appended has_no_derived_form (decl_decls n m x) _ (core_decl n m x) (core_graph (n + decl_hidden x) (m + decl_hidden_functions x) xs)

pub expanded_core : (f : File) → is_core_file (expanded f) ≡ true
expanded_core f = core_graph 0 0 f.graph.decls

-- What is core stands for itself.

pub kept_row : (at : ℕ) (x : Spot) (p n m : ℕ) (s : ShapeForm) → is_derived s ≡ false → let_items at x p n m s ≡ bound at p x s ∷ []
kept_row at x p n m (Orelse a b) h = cc
kept_row at x p n m (Gate s c) h = cc
kept_row at x p n m (Once s) h = cc
kept_row at x p n m (Accum ty y z s o e) h = cc
kept_row at x p n m (Collect ty y z s o e) h = cc
kept_row at x p n m (Lift2 y z ca cb e) h = cc
kept_row at x p n m (Defer s) h = cc
kept_row at x p n m _ h = refl

pub no_functions : (p m : ℕ) (s : ShapeForm) → is_derived s ≡ false → shape_functions p m s ≡ []
no_functions p m (Lift2 y z ca cb e) h = cc
no_functions p m _ h = refl

kept_items : (at n m : ℕ) (f : ItemForm) → is_core_form f ≡ true → form_items at n m f ≡ record { at = at; form = f } ∷ []
kept_items at n m (Let x s) h = kept_row at x s.at n m s.form (not_true (is_derived s.form) h)
kept_items at n m (Cellsink s c ty o) h = cc
kept_items at n m _ h = refl

kept_functions : (m : ℕ) (f : ItemForm) → is_core_form f ≡ true → form_functions m f ≡ []
kept_functions m (Let x s) h = no_functions s.at m s.form (not_true (is_derived s.form) h)
kept_functions m _ h = refl

kept_body : (n m : ℕ) (is : List Item) → are_core_items is ≡ true → body_items n m is ≡ is
kept_body n m [] h = refl
kept_body n m (i ∷ is) h =
    let q = both_true (is_core_form i.form) (are_core_items is) h in
    rw (kept_items i.at n m i.form q.0, kept_body (n + form_hidden i.form) (m + form_hidden_functions i.form) is q.1) refl

kept_body_functions : (m : ℕ) (is : List Item) → are_core_items is ≡ true → body_functions m is ≡ []
kept_body_functions m [] h = refl
kept_body_functions m (i ∷ is) h =
    let q = both_true (is_core_form i.form) (are_core_items is) h in
    rw (kept_functions m i.form q.0, kept_body_functions (m + form_hidden_functions i.form) is q.1) refl

kept_decl : (n m : ℕ) (x : Decl) → has_no_derived_form x ≡ true → decl_decls n m x ≡ x ∷ []
kept_decl n m (d.Template t) h = rw (kept_body_functions m t.items h, kept_body 0 m t.items h) refl
kept_decl n m (d.Function f) h = refl
kept_decl n m (d.Item i) h = rw (kept_functions m i.form h, kept_items i.at n m i.form h) refl

kept_graph : (n m : ℕ) (ds : List Decl) → list_all has_no_derived_form ds ≡ true → graph_decls n m ds ≡ ds
kept_graph n m [] h = refl
kept_graph n m (x ∷ xs) h =
    let q = both_true (has_no_derived_form x) (list_all has_no_derived_form xs) h in
    rw (kept_decl n m x q.0, kept_graph (n + decl_hidden x) (m + decl_hidden_functions x) xs q.1) refl

pub core_stays : (f : File) → is_core_file f ≡ true → expanded f ≡ f
core_stays f h = rw (kept_graph 0 0 f.graph.decls h) refl
