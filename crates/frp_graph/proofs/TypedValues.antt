-- Values of their types: what a node of a type holds, the node that a value refers to, and values among more nodes.
use Rattle.std.proofs.Common.{◌≡◌, ℕ, zero, suc, true, List, [], ◌∷◌, ◌++◌, map, Option, Some, None, refl, sym, ap, ◌∙◌, subst}
use Rattle.std.specs.Prelude.{◌&&◌, ◌||◌, is_some, slice_get}
use Rattle.frp_base.specs.declared.name.Name.{Name}
use Rattle.frp_base.specs.declared.ty.Ty.{Ty, out-Ty, roll-Ty, out-roll-Ty, roll-out-Ty}
use Rattle.frp_base.specs.declared.ty.Ty.TheOpen.{Ty-F}
use Rattle.frp_base.specs.declared.ty.Ty.TheOpen as u
use Rattle.frp_base.specs.declared.ty.Ty.TheVariants as t
use Rattle.frp_base.specs.declared.val.Val.{Val, out-Val}
use Rattle.frp_base.specs.declared.val.Val.TheOpen.{Val-F}
use Rattle.frp_base.specs.declared.val.Val.TheOpen as o
use Rattle.frp_base.specs.declared.val.Val.TheVariants as v
use Rattle.frp_base.specs.Ty.{ty_eq}
use Rattle.frp_base.proofs.TyLemmas.{ty_decides}
use Rattle.frp_expr.specs.Parts.{items_of}
use Rattle.frp_expr.specs.Typing.{Sig}
use Rattle.frp_expr.specs.Values.{is_node_of, each_of, is_of, are_of}
use Rattle.frp_base.proofs.Booleans.{both_true, true_both, or_true}
use Rattle.frp_expr.proofs.TypeLemmas.{given_some}
use Rattle.frp_expr.proofs.ValueLemmas.{Layer, AllOf, made, opened, list_parts}
use Rattle.frp_expr.proofs.ValuesStay.{stays}
use Rattle.frp_graph.specs.declared.trace.Node.{Node}
use Rattle.frp_graph.specs.declared.prog.Prog.{Prog}
use Rattle.frp_graph.specs.Applied.{name_in, target, present_in}
use Rattle.frp_graph.specs.Births.{reference_in, reference}
use Rattle.frp_graph.specs.TypedProg.{stream_in, cell_in, stream_item, cell_item, is_stream, is_cell, option_in, option_item, result_in, result_for}
use Rattle.frp_graph.specs.Values.{is_value, held_in, is_of_held, fits_node}

-- Types of streams and cells.

stream_from_in : (w : Ty-F Ty) (a : Ty) → stream_in w ≡ Some a → roll-Ty w ≡ t.Stream a
stream_from_in (u.Stream b) a e = let q : b ≡ a = cc in t.rolls-Stream b ∙ ap (λ (b : Ty). t.Stream b) q
stream_from_in _ a e = absurd cc

-- what holds these in a stream is that stream's type, and likewise a cell's and an optional value's
pub stream_from : (y a : Ty) → stream_item y ≡ Some a → y ≡ t.Stream a
stream_from y a e = sym (roll-out-Ty y) ∙ stream_from_in (out-Ty y) a e

cell_from_in : (w : Ty-F Ty) (a : Ty) → cell_in w ≡ Some a → roll-Ty w ≡ t.Cell a
cell_from_in (u.Cell b) a e = let q : b ≡ a = cc in t.rolls-Cell b ∙ ap (λ (b : Ty). t.Cell b) q
cell_from_in _ a e = absurd cc

pub cell_from : (y a : Ty) → cell_item y ≡ Some a → y ≡ t.Cell a
cell_from y a e = sym (roll-out-Ty y) ∙ cell_from_in (out-Ty y) a e

option_from_in : (w : Ty-F Ty) (a : Ty) → option_in w ≡ Some a → roll-Ty w ≡ t.Option a
option_from_in (u.Option b) a e = let q : b ≡ a = cc in t.rolls-Option b ∙ ap (λ (b : Ty). t.Option b) q
option_from_in _ a e = absurd cc

pub option_from : (y a : Ty) → option_item y ≡ Some a → y ≡ t.Option a
option_from y a e = sym (roll-out-Ty y) ∙ option_from_in (out-Ty y) a e

pub stream_is : (a : Ty) → is_stream (t.Stream a) ≡ true
stream_is a = ap (λ (y : Ty). is_some (stream_in (out-Ty y))) (sym (t.rolls-Stream a)) ∙ ap (λ (w : Ty-F Ty). is_some (stream_in w)) (out-roll-Ty (u.Stream a))

pub cell_is : (a : Ty) → is_cell (t.Cell a) ≡ true
cell_is a = ap (λ (y : Ty). is_some (cell_in (out-Ty y))) (sym (t.rolls-Cell a)) ∙ ap (λ (w : Ty-F Ty). is_some (cell_in w)) (out-roll-Ty (u.Cell a))

-- what gives these for an argument of this type is a function's type
result_from_in : (a : Ty) (w : Ty-F Ty) (b : Ty) → result_in a w ≡ Some b → roll-Ty w ≡ t.Fun a b
result_from_in a (u.Fun c d) b e =
    let g = given_some (ty_eq c a) d b e in
    t.rolls-Fun c d ∙ ap (λ (c : Ty). t.Fun c d) ((ty_decides c a).0 g.0) ∙ ap (λ (d : Ty). t.Fun a d) g.1
result_from_in a _ b e = absurd cc

pub result_from : (f a b : Ty) → result_for f a ≡ Some b → f ≡ t.Fun a b
result_from f a b e = sym (roll-out-Ty f) ∙ result_from_in a (out-Ty f) b e

-- a node of the type can be there where it is a stream's, or a cell's
abbrev pub IsNodeType : Ty → Type 0
IsNodeType x = (is_stream x || is_cell x) ≡ true

pub stream_type : (x : Ty) → is_stream x ≡ true → IsNodeType x
stream_type x h = rw h refl

pub cell_type : (x : Ty) → is_cell x ≡ true → IsNodeType x
cell_type x h = rw h (or_true (is_stream x))

pub stream_node : (a x : Ty) → x ≡ t.Stream a → IsNodeType x
stream_node a x e = subst IsNodeType (sym e) (stream_type (t.Stream a) (stream_is a))

pub cell_node : (a x : Ty) → x ≡ t.Cell a → IsNodeType x
cell_node a x e = subst IsNodeType (sym e) (cell_type (t.Cell a) (cell_is a))

-- What a stream and a cell hold.

held_stream : (a : Ty) → held_in (out-Ty (t.Stream a)) ≡ Some a
held_stream a = ap (λ y. held_in (out-Ty y)) (sym (t.rolls-Stream a)) ∙ ap held_in (out-roll-Ty (u.Stream a))

held_cell : (a : Ty) → held_in (out-Ty (t.Cell a)) ≡ Some a
held_cell a = ap (λ y. held_in (out-Ty y)) (sym (t.rolls-Cell a)) ∙ ap held_in (out-roll-Ty (u.Cell a))

module _ (prog : Prog) (node : Name → Option Node) where
  pub stream_holds : (a : Ty) (v : Val) → fits_node prog node (t.Stream a) v ≡ is_value prog node v a
  stream_holds a v = ap (is_of_held prog node v) (held_stream a)

  pub cell_holds : (a : Ty) (v : Val) → fits_node prog node (t.Cell a) v ≡ is_value prog node v a
  cell_holds a v = ap (is_of_held prog node v) (held_cell a)

  -- a node of the type holds the value, by what it is to hold
  pub stream_fits : (a x : Ty) (v : Val) → x ≡ t.Stream a → is_value prog node v a ≡ true → fits_node prog node x v ≡ true
  stream_fits a x v e h = subst (λ (y : Ty). fits_node prog node y v ≡ true) (sym e) (stream_holds a v ∙ h)

  pub cell_fits : (a x : Ty) (v : Val) → x ≡ t.Cell a → is_value prog node v a ≡ true → fits_node prog node x v ≡ true
  cell_fits a x v e h = subst (λ (y : Ty). fits_node prog node y v ≡ true) (sym e) (cell_holds a v ∙ h)

  -- a cell's value, by what it is to hold
  pub cell_has : (a x : Ty) (v : Val) → x ≡ t.Cell a → is_value prog node v a ≡ true → is_cell x && fits_node prog node x v ≡ true
  cell_has a x v e h = true_both _ _ (subst (λ (y : Ty). is_cell y ≡ true) (sym e) (cell_is a)) (cell_fits a x v e h)

-- Values, where the types of the nodes are these.

pub node_is : (x : Ty) (p : Option Ty) → is_node_of x p ≡ true → p ≡ Some x
node_is x None h = absurd cc
node_is x (Some y) h = ap Some ((ty_decides y x).0 h)

module _ (nodes : Name → Option Ty) (sigs : List Sig) where
  -- the reference to a node of a type is of the type
  reference_by : (w : Ty-F Ty) (x : Ty) (n : Name) → roll-Ty w ≡ x → (is_some (stream_in w) || is_some (cell_in w)) ≡ true → nodes n ≡ Some x → is_of nodes sigs (reference_in w n) x ≡ true
  reference_by (u.Stream a) x n e r h = made nodes sigs (v.Stream n) (o.Stream n) x (u.Stream a) (v.rolls-Stream n) e (rw h ((ty_decides x x).1 refl))
  reference_by (u.Cell a) x n e r h = made nodes sigs (v.Cell n) (o.Cell n) x (u.Cell a) (v.rolls-Cell n) e (rw h ((ty_decides x x).1 refl))
  reference_by _ x n e r h = absurd cc

  pub reference_is : (x : Ty) (n : Name) → IsNodeType x → nodes n ≡ Some x → is_of nodes sigs (reference x n) x ≡ true
  reference_is x n r h = reference_by (out-Ty x) x n (roll-out-Ty x) r h

  -- a value of a node's type refers to a node of the type
  refers_in : (l : Val-F Val) (x : Ty) (w : Ty-F Ty) → (is_some (stream_in w) || is_some (cell_in w)) ≡ true → Layer nodes sigs l x w ≡ true → is_node_of x (nodes (name_in l)) ≡ true
  refers_in (o.Stream n) x (u.Stream a) e h = h
  refers_in (o.Cell n) x (u.Cell a) e h = h
  refers_in _ x (u.Stream a) e h = absurd cc
  refers_in _ x (u.Cell a) e h = absurd cc
  refers_in l x _ e h = absurd cc

  pub refers : (y : Val) (x : Ty) → IsNodeType x → is_of nodes sigs y x ≡ true → nodes (target y) ≡ Some x
  refers y x r h = node_is x (nodes (target y)) (refers_in (out-Val y) x (out-Ty x) r (opened nodes sigs y x (out-Ty x) (roll-out-Ty x) h))

  -- an item of a list
  item_among : (xs : List Val) (a : Ty) (i : ℕ) (y : Val) → AllOf nodes sigs xs a → slice_get xs i ≡ Some y → is_of nodes sigs y a ≡ true
  item_among [] a i y h e = absurd cc
  item_among (x ∷ xs) a zero y h e = let q : x ≡ y = cc in subst (λ (z : Val). is_of nodes sigs z a ≡ true) q (both_true _ _ h).0
  item_among (x ∷ xs) a (suc i) y h e = item_among xs a i y (both_true _ _ h).1 e

  pub item_fits : (l : Val) (a : Ty) (i : ℕ) (y : Val) → is_of nodes sigs l (t.List a) ≡ true → slice_get (items_of l) i ≡ Some y → is_of nodes sigs y a ≡ true
  item_fits l a i y h e = item_among (items_of l) a i y (list_parts nodes sigs l a h) e

  -- what an optional value holds
  present_fits_in : (l : Val-F Val) (x a : Ty) (y : Val) → Layer nodes sigs l x (u.Option a) ≡ true → present_in l ≡ Some y → is_of nodes sigs y a ≡ true
  present_fits_in (o.Present z) x a y h e = let q : z ≡ y = cc in subst (λ (z : Val). is_of nodes sigs z a ≡ true) q h
  present_fits_in _ x a y h e = absurd cc

  pub present_fits : (l : Val) (a : Ty) (y : Val) → is_of nodes sigs l (t.Option a) ≡ true → present_in (out-Val l) ≡ Some y → is_of nodes sigs y a ≡ true
  present_fits l a y h e = present_fits_in (out-Val l) (t.Option a) a y (opened nodes sigs l (t.Option a) (u.Option a) (t.rolls-Option a) h) e

  -- Values one by one.
  pub each_are : (vs : List Val) (ts : List Ty) → each_of (map (is_of nodes sigs) vs) ts ≡ true → are_of nodes sigs vs ts ≡ true
  each_are [] [] h = refl
  each_are [] (x ∷ ts) h = absurd cc
  each_are (y ∷ vs) [] h = absurd cc
  each_are (y ∷ vs) (x ∷ ts) h = let q = both_true _ _ h in true_both _ _ q.0 (each_are vs ts q.1)

  pub are_append : (vs us : List Val) (ts xs : List Ty) → are_of nodes sigs vs ts ≡ true → are_of nodes sigs us xs ≡ true → are_of nodes sigs (vs ++ us) (ts ++ xs) ≡ true
  are_append [] us [] xs h p = p
  are_append [] us (x ∷ ts) xs h p = absurd cc
  are_append (y ∷ vs) us [] xs h p = absurd cc
  are_append (y ∷ vs) us (x ∷ ts) xs h p = let q = both_true _ _ h in true_both _ _ q.0 (are_append vs us ts xs q.1 p)

  pub one_is : (y : Val) (x : Ty) → is_of nodes sigs y x ≡ true → are_of nodes sigs (y ∷ []) (x ∷ []) ≡ true
  one_is y x h = true_both _ _ h refl

  pub two_are : (y z : Val) (x w : Ty) → is_of nodes sigs y x ≡ true → is_of nodes sigs z w ≡ true → are_of nodes sigs (y ∷ z ∷ []) (x ∷ w ∷ []) ≡ true
  two_are y z x w h p = true_both _ _ h (one_is z w p)

-- values of their types among some nodes are so among more
pub are_stay : (sigs : List Sig) (few many : Name → Option Ty) → ((n : Name) (y : Ty) → few n ≡ Some y → many n ≡ Some y) → (vs : List Val) (ts : List Ty) → are_of few sigs vs ts ≡ true → are_of many sigs vs ts ≡ true
are_stay sigs few many more [] [] h = refl
are_stay sigs few many more [] (x ∷ ts) h = absurd cc
are_stay sigs few many more (y ∷ vs) [] h = absurd cc
are_stay sigs few many more (y ∷ vs) (x ∷ ts) h = let q = both_true _ _ h in true_both _ _ (stays few many sigs more y x q.0) (are_stay sigs few many more vs ts q.1)
