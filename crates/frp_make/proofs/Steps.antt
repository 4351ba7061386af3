-- The steps of a search for first values keep what stands, and leave less to do.
use Rattle.std.proofs.Common.{◌≡◌, ℕ, suc, ◌+◌, ◌<◌, Bool, true, false, List, [], ◌∷◌, ◌++◌, length, set, replicate, Option, Some, None, refl, sym, ap, ◌∙◌, subst, arith, inl, inr}
use Rattle.std.specs.Prelude.{◌==◌, is_some, slice_get}
use Rattle.std.specs.List.{list_any}
use Rattle.std.proofs.lemmas.Bool.{cases_eq}
use Rattle.std.proofs.lemmas.List.{length-set, length_push, length-append, length-replicate}
use Rattle.std.proofs.lemmas.Option.{same_Some}
use Rattle.frp_base.specs.declared.name.Name.{Name}
use Rattle.frp_base.specs.declared.val.Val.{Val}
use Rattle.frp_base.specs.Name.{name_eq}
use Rattle.frp_base.proofs.Booleans.{both_true, not_true, and_false, is_false}
use Rattle.frp_graph.specs.declared.trace.Node.{Node}
use Rattle.frp_graph.specs.declared.prog.Prog.{Prog}
use Rattle.frp_graph.specs.declared.shape.Shape.{Shape}
use Rattle.frp_graph.specs.declared.shape.Shape.TheVariants.{Constant, Hold}
use Rattle.frp_graph.specs.Trace.{Sight, post_in}
use Rattle.frp_graph.specs.TypedProg.{is_cell}
use Rattle.frp_graph.specs.FirstValues.{first_value}
use Rattle.frp_graph.specs.Links.{birth_links}
use Rattle.frp_graph.specs.WellFormed.{HasFirsts}
use Rattle.frp_graph.proofs.Options.{some_there}
use Rattle.frp_order.specs.Rings.{row}
use Rattle.frp_make.specs.Making.{with_born}
use Rattle.frp_make.specs.Firsts.{IsIndex, awaited_in, IsReadable}
use Rattle.frp_make.specs.Search.{is_missing, missing_among, one_if, count, missing_of, missing_at, State, IsUnsettled, pushed, with_waiting, with_node, left, triangle, has_given, Stands, Awaits, IsSearch, IsGrown, AreGrown, GoesOn, AreDrafts}
use Rattle.frp_make.proofs.Items.{written_same, written_other, get_inside}
use Rattle.frp_make.proofs.Born.{new_node}
use Rattle.frp_make.proofs.Waiting.{is_none, IsLink, awaited_link, readable, ready_first}
use Rattle.frp_make.proofs.Linking.{linked_value}
use Rattle.frp_make.proofs.Growing.{valued, stands_after, awaited_stays}
use Rattle.frp_make.proofs.Counting.{same_is, other_is, missing_once, count_push, count_append, in_rows, rows_written, row_written, row_other, in_row, none_in_rows, none_in_row, count_missing}

pub cell_of : (x : Node) → is_missing x ≡ true → (is_cell x.ty ≡ true) × (x.first ≡ None)
cell_of x h = let b = both_true _ _ h in (b.0, is_none x.first (not_true _ b.1))

is_one : (b : Bool) → one_if b ≡ 1 → b ≡ true
is_one true e = refl
is_one false e = absurd (omega arith)

pub grown_same : (nodes : List Node) → AreGrown nodes nodes
grown_same nodes = (refl, λ r x e. (x, e, record { name = refl; shape = refl; ty = refl; first = λ v f. f }))

pub grown_more : (a b c : List Node) → AreGrown a b → AreGrown b c → AreGrown a c
grown_more a b c f g = (
  g.0 ∙ f.0,
  λ p x e.
      let y = f.1 p x e in
      let z = g.1 p y.0 y.1 in
      (z.0, z.1, record { name = z.2.name ∙ y.2.name; shape = z.2.shape ∙ y.2.shape; ty = z.2.ty ∙ y.2.ty; first = λ v k. z.2.first v (y.2.first v k) }),
)

-- The start.

given_own : (prog : Prog) (w : Sight) (shape : Shape) (v : Val) → has_given shape ≡ true → first_value prog w (Some v) shape ≡ Some v
given_own prog w Constant v h = refl
given_own prog w (Hold s) v h = refl
given_own prog w _ v h = absurd cc

no_links : (w : Sight) (n : Name) (shape : Shape) → has_given shape ≡ true → list_any (λ k. name_eq k n) (birth_links w (post_in w) shape) ≡ false
no_links w n Constant h = refl
no_links w n (Hold s) h = refl
no_links w n _ h = absurd cc

pub stands_first : (prog : Prog) (w : Sight) (find : Name → Option ℕ) (drafts : List Node) → AreDrafts prog w drafts → IsIndex drafts find → Stands prog w find drafts
stands_first prog w find drafts d index = record {
  index = index;
  formed = d.formed;
  new = d.new;
  given = λ p x e g. d.given p x e ∙ g;
  own = λ p x v e f. given_own prog (with_born w drafts) x.shape v (sym (d.given p x e) ∙ ap is_some f);
  rank = λ p. 0;
  back = λ p q x y e f there h.
      let parts = both_true _ _ (sym (linked_value w drafts find index d.new p q x y e f) ∙ h) in
      let none = no_links (with_born w drafts) y.name x.shape (sym (d.given p x e) ∙ there) in
      let leads : list_any (λ k. name_eq k y.name) (birth_links (with_born w drafts) (post_in (with_born w drafts)) x.shape) ≡ true = (both_true _ _ parts.1).1 in
      absurd (cc (leads, none));
}

pub starts : (prog : Prog) (w : Sight) (find : Name → Option ℕ) (drafts : List Node) (s : State) → AreDrafts prog w drafts → IsIndex drafts find → IsUnsettled drafts s → IsSearch prog w find s
starts prog w find drafts s d index u = subst (IsSearch prog w find) (sym same) (record {
  stands = stands_first prog w find drafts d index;
  rows = length-replicate (length drafts) [];
  placed = λ p. let a = count_missing drafts p in let b = none_in_rows p (length drafts) in omega arith;
  waits = λ p q h. absurd (let z = none_in_row p q (length drafts) in omega arith);
})
  where
    same : s ≡ record { nodes = drafts; todo = missing_among drafts; waiting = replicate (length drafts) [] }
    same = λ i. record { nodes = u.nodes i; todo = u.todo i; waiting = u.waiting i }

-- A place that was to be looked at.

module _ (prog : Prog) (w : Sight) (firsts : HasFirsts w) (find : Name → Option ℕ) (s : State) (p : ℕ) (h : IsSearch prog w find (pushed s p)) where
  placed : (r : ℕ) → count r (s.todo ++ p ∷ []) + in_rows r s.waiting ≡ missing_at s.nodes r
  placed r = h.placed r

  missing_here : missing_at s.nodes p ≡ 1
  missing_here =
      let a = placed p in
      let b = count_push p p s.todo in
      let c = same_is p in
      let d = missing_once s.nodes p in
      omega arith

  not_waiting : in_rows p s.waiting ≡ 0
  not_waiting =
      let a = placed p in
      let b = count_push p p s.todo in
      let c = same_is p in
      let d = missing_once s.nodes p in
      omega arith

  pub record IsIt : Type 0 where
    pub node : Node
    pub here : slice_get s.nodes p ≡ Some node
    pub cell : is_cell node.ty ≡ true
    pub missing : node.first ≡ None

  pub it : IsIt
  it = by (slice_get s.nodes p) refl where
    by : (o : Option Node) → slice_get s.nodes p ≡ o → IsIt
    by None e = absurd (let z : missing_at s.nodes p ≡ 0 = ap missing_of e in let o = missing_here in omega arith)
    by (Some x) e =
        let one : one_if (is_missing x) ≡ 1 = sym (ap missing_of e) ∙ missing_here in
        let c = cell_of x (is_one (is_missing x) one) in
        record { node = x; here = e; cell = c.0; missing = c.1 }

  live_here : (x : Node) → slice_get s.nodes p ≡ Some x → (with_born w s.nodes).node x.name ≡ Some x
  live_here x e = new_node s.nodes find h.stands.index w p x e

  pub readable_here : (x : Node) → slice_get s.nodes p ≡ Some x → IsReadable w find s.nodes x.shape
  readable_here x e = readable find s.nodes h.stands.index prog w firsts h.stands.formed x.ty x.shape (h.stands.formed.shapes x.name x (live_here x e))

  row_inside : (q : ℕ) (y : Node) → slice_get s.nodes q ≡ Some y → q < length s.waiting
  row_inside q y e = subst (λ n. q < n) (sym h.rows) (get_inside s.nodes q y e)

  -- it waits for another

  pub awaited_is : (q : ℕ) → awaited_in w find s.nodes it.node.shape ≡ Some q → IsLink find s.nodes h.stands.index prog w firsts h.stands.formed it.node.shape q
  awaited_is q a =
      awaited_link find s.nodes h.stands.index prog w firsts h.stands.formed it.node.ty it.node.shape q (h.stands.formed.shapes it.node.name it.node (live_here it.node it.here)) it.cell a

  module _ (q : ℕ) (a : Awaits w find s.nodes p q) where
    pub next_inside : q < length s.waiting
    next_inside =
        let same : a.node ≡ it.node = same_Some a.node it.node (sym a.found ∙ it.here) in
        let l = awaited_is q (subst (λ (x : Node). awaited_in w find s.nodes x.shape ≡ Some q) same a.awaits) in
        row_inside q l.node l.here

    abbrev longer : List ℕ
    longer = row s.waiting q ++ p ∷ []

    waits_more : (r t : ℕ) → 0 < count r (row (set s.waiting q longer) t) → Awaits w find s.nodes r t
    waits_more r t k = elim (cases_eq t q) [
      | inl e ↦
          let at_q : count r (row (set s.waiting q longer) t) ≡ count r longer = ap (λ i. count r (row (set s.waiting q longer) i)) e ∙ ap (count r) (row_written s.waiting q longer next_inside) in
          let more = count_push r p (row s.waiting q) in
          elim (cases_eq p r) [
            | inl i ↦ subst (λ j. Awaits w find s.nodes r j) (sym e) (subst (λ j. Awaits w find s.nodes j q) i a)
            | inr n ↦
                let none = other_is p r n in
                let old : 0 < count r (row s.waiting q) = omega arith in
                subst (λ j. Awaits w find s.nodes r j) (sym e) (h.waits r q old)
          ]
      | inr n ↦ h.waits r t (subst (λ xs. 0 < count r xs) (row_other s.waiting q t longer n) k)
    ]

    pub wait_goes : GoesOn prog w find (pushed s p) (with_waiting s p q)
    wait_goes = record {
      search = record {
        stands = h.stands;
        rows = length-set s.waiting q longer ∙ h.rows;
        placed = λ r.
            let x = placed r in
            let y = count_push r p s.todo in
            let z = rows_written s.waiting q longer next_inside (count r) in
            let k = count_push r p (row s.waiting q) in
            omega arith;
        waits = waits_more;
      };
      grown = grown_same s.nodes;
      less =
          let y : length (s.todo ++ p ∷ []) ≡ length s.todo + 1 = length_push s.todo p in
          let z = rows_written s.waiting q longer next_inside length in
          let k : length longer ≡ length (row s.waiting q) + 1 = length_push (row s.waiting q) p in
          let same : left (with_waiting s p q) ≡ left (pushed s p) = omega arith in
          let t : triangle (left (with_waiting s p q)) ≡ triangle (left (pushed s p)) = ap triangle same in
          omega arith;
    }

  -- its first value is found

  module _ (v : Val) (value : first_value prog (with_born w s.nodes) None it.node.shape ≡ Some v) (ready : awaited_in w find s.nodes it.node.shape ≡ None) where
    abbrev pub found : Node
    found = valued prog w find s.nodes h.stands p it.node it.here it.missing v

    abbrev nodes_after : List Node
    nodes_after = set s.nodes p found

    it_inside : p < length s.waiting
    it_inside = row_inside p it.node it.here

    found_here : missing_at nodes_after p ≡ 0
    found_here = ap missing_of (written_same s.nodes p found it.node it.here) ∙ ap one_if (and_false (is_cell it.node.ty))

    others_stay : (r : ℕ) → (r ≡ p → ⊥) → missing_at nodes_after r ≡ missing_at s.nodes r
    others_stay r n = ap missing_of (written_other s.nodes p r found n)

    placed_after : (r : ℕ) → count r (s.todo ++ row s.waiting p) + in_rows r (set s.waiting p []) ≡ missing_at nodes_after r
    placed_after r =
        let a = placed r in
        let b = count_push r p s.todo in
        let c = count_append r s.todo (row s.waiting p) in
        let d = rows_written s.waiting p [] it_inside (count r) in
        let z : count r [] ≡ 0 = refl in
        elim (cases_eq r p) [
          | inl e ↦
              let gone : missing_at nodes_after r ≡ 0 = ap (missing_at nodes_after) e ∙ found_here in
              let was : missing_at s.nodes r ≡ 1 = ap (missing_at s.nodes) e ∙ missing_here in
              let one : one_if (p == r) ≡ 1 = ap (λ i. one_if (p == i)) e ∙ same_is p in
              omega arith
          | inr n ↦
              let same = others_stay r n in
              let none = other_is p r (λ e. n (sym e)) in
              omega arith
        ]

    waits_after : (r t : ℕ) → 0 < count r (row (set s.waiting p []) t) → Awaits w find nodes_after r t
    waits_after r t k = elim (cases_eq t p) [
      | inl e ↦
          let at_p : count r (row (set s.waiting p []) t) ≡ 0 = ap (λ i. count r (row (set s.waiting p []) i)) e ∙ ap (count r) (row_written s.waiting p [] it_inside) in
          absurd (omega arith)
      | inr n ↦
          let old : 0 < count r (row s.waiting t) = subst (λ xs. 0 < count r xs) (row_other s.waiting p t [] n) k in
          let a = h.waits r t old in
          let other : r ≡ p → ⊥ = λ e.
          let at_p : count r (row s.waiting t) ≡ count p (row s.waiting t) = ap (λ i. count i (row s.waiting t)) e in
          let few = in_row p t s.waiting in
          let none = not_waiting in
          omega arith in
          record {
            node = a.node;
            found = written_other s.nodes p r found other ∙ a.found;
            awaits = awaited_stays prog w find s.nodes h.stands p it.node it.here it.missing v a.node.shape t n a.awaits;
          }
    ]

    pub finish_goes : GoesOn prog w find (pushed s p) (with_node s p found)
    finish_goes = record {
      search = record {
        stands = stands_after prog w find s.nodes h.stands p it.node it.here it.missing v value firsts ready;
        rows = length-set s.waiting p [] ∙ h.rows ∙ sym (length-set s.nodes p found);
        placed = placed_after;
        waits = waits_after;
      };
      grown = (
        length-set s.nodes p found,
        λ r y e. elim (cases_eq r p) [
          | inl i ↦
              let same : it.node ≡ y = same_Some it.node y (sym it.here ∙ ap (slice_get s.nodes) (sym i) ∙ e) in (
                found,
                ap (slice_get nodes_after) i ∙ written_same s.nodes p found it.node it.here,
                subst (λ (z : Node). IsGrown z found) same (record {
                  name = refl;
                  shape = refl;
                  ty = refl;
                  first = λ u f. absurd (let no : Some u ≡ None = sym f ∙ it.missing in cc);
                }),
              )
          | inr n ↦ (y, written_other s.nodes p r found n ∙ e, record { name = refl; shape = refl; ty = refl; first = λ u f. f })
        ],
      );
      less =
          let y : length (s.todo ++ p ∷ []) ≡ length s.todo + 1 = length_push s.todo p in
          let z = rows_written s.waiting p [] it_inside length in
          let n : length {A = ℕ} [] ≡ 0 = refl in
          let k : length (s.todo ++ row s.waiting p) ≡ length s.todo + length (row s.waiting p) = length-append s.todo (row s.waiting p) in
          let one : left (pushed s p) ≡ suc (left (with_node s p found)) = omega arith in
          let t : triangle (left (pushed s p)) ≡ triangle (left (with_node s p found)) + suc (left (with_node s p found)) = ap triangle one in
          omega arith;
    }

  -- as it is found, of the rows that are there

  not_given : has_given it.node.shape ≡ false
  not_given = is_false (has_given it.node.shape) (λ g. let f : is_some it.node.first ≡ true = h.stands.given p it.node it.here g in let n : is_some it.node.first ≡ false = ap is_some it.missing in cc (f, n))

  pub it_inside_rows : p < length s.waiting
  it_inside_rows = row_inside p it.node it.here

  pub finish_done : (first : Option Val) → first ≡ first_value prog (with_born w s.nodes) None it.node.shape → awaited_in w find s.nodes it.node.shape ≡ None
      → (new : Node) → new ≡ record { name = it.node.name; shape = it.node.shape; ty = it.node.ty; first = first }
      → (todo rest : List ℕ) → todo ≡ s.todo ++ row s.waiting p → rest ≡ []
      → GoesOn prog w find (pushed s p) (record { nodes = set s.nodes p new; todo = todo; waiting = set s.waiting p rest })
  finish_done first value ready new is todo rest todos rests =
      let there = ready_first find s.nodes h.stands.index prog w firsts h.stands.formed it.node.ty it.node.shape (h.stands.formed.shapes it.node.name it.node (live_here it.node it.here)) it.cell not_given ready in
      let v = some_there (first_value prog (with_born w s.nodes) None it.node.shape) there in
      let made = finish_goes v.0 v.1 ready in
      let node : new ≡ record { name = it.node.name; shape = it.node.shape; ty = it.node.ty; first = Some v.0 }
      = is ∙ ap (λ (o : Option Val). record { name = it.node.name; shape = it.node.shape; ty = it.node.ty; first = o }) (value ∙ v.1) in
      let after : record { nodes = set s.nodes p new; todo = todo; waiting = set s.waiting p rest } ≡ with_node s p (found v.0 v.1 ready)
      = λ i. record { nodes = set s.nodes p (node i); todo = todos i; waiting = set s.waiting p (rests i) } in
      subst (GoesOn prog w find (pushed s p)) (sym after) made
