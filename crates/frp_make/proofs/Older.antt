-- Links of Birth where nodes are born beside live ones: a live node's lead to live ones, as they did before.
use Rattle.std.proofs.Common.{◌≡◌, ◌⊎◌, ℕ, Bool, true, false, List, [], ◌∷◌, filter, Option, Some, None, refl, sym, ap, ◌∙◌, inl, inr}
use Rattle.std.specs.Prelude.{◌&&◌, is_some, slice_get, if◌then◌else◌}
use Rattle.std.specs.List.{AllByRecursion, list_any}
use Rattle.frp_base.specs.declared.name.Name.{Name}
use Rattle.frp_base.specs.declared.ty.Ty.{Ty}
use Rattle.frp_base.specs.declared.ty.Ty.TheVariants as t
use Rattle.frp_base.specs.declared.val.Val.{Val}
use Rattle.frp_base.specs.Name.{name_eq}
use Rattle.frp_base.proofs.Booleans.{both_true, true_both}
use Rattle.frp_graph.specs.declared.trace.Node.{Node}
use Rattle.frp_graph.specs.declared.prog.Prog.{Prog}
use Rattle.frp_graph.specs.declared.shape.Shape.{Shape}
use Rattle.frp_graph.specs.declared.shape.Shape.TheVariants.{Mapc, Apply, Loop, Switchc}
use Rattle.frp_graph.specs.declared.evidence.Phase.TheVariants.{Birth}
use Rattle.frp_graph.specs.Trace.{Sight, or_else, node_in, post_in}
use Rattle.frp_graph.specs.Applied.{target}
use Rattle.frp_graph.specs.TypedProg.{is_cell, sigs}
use Rattle.frp_graph.specs.Links.{targets, birth_links, is_new_cell, links_from, is_linked, first_or, is_path, is_closed_chain}
use Rattle.frp_graph.specs.Values.{type_among}
use Rattle.frp_graph.specs.Evidence.{LeadsToChain}
use Rattle.frp_graph.specs.WellFormed.{Allows, IsWellFormed}
use Rattle.frp_graph.proofs.Options.{some_there}
use Rattle.frp_graph.proofs.TypedValues.{cell_type, refers}
use Rattle.frp_graph.proofs.TypedSights.{node_of_type, cell_before}
use Rattle.frp_make.specs.Making.{with_born, before_of}
use Rattle.frp_make.specs.Search.{is_linked_among, LinksLive}
use Rattle.frp_make.proofs.Born.{node_place}
use Rattle.frp_make.proofs.Linking.{filtered}

-- In a well-formed graph links of Birth lead to live nodes.

module _ (prog : Prog) (w : Sight) (formed : IsWellFormed prog w) where
  live_of : (n : Name) (x : Ty) → type_among w.node n ≡ Some x → is_some (w.node n) ≡ true
  live_of n x h = ap is_some (node_of_type (w.node n) x h).1

  targets_live : (c : Name) (x : Ty) (o : Option Val) → w.pre c ≡ o → type_among w.node c ≡ Some (t.Cell x) → is_cell x ≡ true → AllByRecursion (λ n. is_some (w.node n) ≡ true) (targets o)
  targets_live c x None e h k = tt
  targets_live c x (Some d) e h k = (live_of (target d) x (refers (type_among w.node) (sigs prog) d x (cell_type x k) (cell_before prog w formed c x d h e)), tt)

  links_of : (x : Ty) (s : Shape) → Allows prog w x s → AllByRecursion (λ n. is_some (w.node n) ≡ true) (birth_links w (post_in w) s)
  links_of x (Mapc f c) (a, b, source, gives, is) = (live_of c (t.Cell a) source, tt)
  links_of x (Apply cf ca) (a, b, function, argument, is) = (live_of cf (t.Cell (t.Fun a b)) function, (live_of ca (t.Cell a) argument, tt))
  links_of x (Loop to) (kind, tied) = (live_of to x tied, tt)
  links_of x (Switchc c) (source, kind) = (live_of c (t.Cell x) source, targets_live c x (w.pre c) refl source kind)
  links_of x _ p = tt

  pub links_live : LinksLive w
  links_live n x e = links_of x.ty x.shape (formed.shapes n x e)

-- tests that agree on each of some names keep the same
same_filter : (p q : Name → Bool) (ns : List Name) → AllByRecursion (λ n. p n ≡ q n) ns → filter p ns ≡ filter q ns
same_filter p q [] h = refl
same_filter p q (n ∷ ns) h = by (p n) (q n) h.0 (same_filter p q ns h.1) where
  by : (b c : Bool) → b ≡ c → filter p ns ≡ filter q ns → (if b then n ∷ filter p ns else filter p ns) ≡ (if c then n ∷ filter q ns else filter q ns)
  by true true e k = ap (λ ms. n ∷ ms) k
  by false false e k = k
  by true false e k = absurd cc
  by false true e k = absurd cc

path_more : (few many : Name → Name → Bool) → ((a b : Name) → few a b ≡ true → many a b ≡ true) → (ns : List Name) (end : Name) → is_path few ns end ≡ true → is_path many ns end ≡ true
path_more few many f [] end h = refl
path_more few many f (n ∷ ns) end h =
    let p = both_true (few n (first_or ns end)) (is_path few ns end) h in
    true_both _ _ (f n (first_or ns end) p.0) (path_more few many f ns end p.1)

pub closed_more : (few many : Name → Name → Bool) → ((a b : Name) → few a b ≡ true → many a b ≡ true) → (ns : List Name) → is_closed_chain few ns ≡ true → is_closed_chain many ns ≡ true
closed_more few many f [] h = h
closed_more few many f (n ∷ ns) h =
    let p = both_true _ (is_path few (n ∷ ns) n) h in
    true_both _ _ p.0 (path_more few many f (n ∷ ns) n p.1)

module _ (w : Sight) (nodes : List Node) (fresh : (p : ℕ) (x : Node) → slice_get nodes p ≡ Some x → w.node x.name ≡ None) (older : LinksLive w) where
  abbrev W : Sight
  W = with_born w nodes

  abbrev whole : Name → Name → Bool
  whole = is_linked W Birth

  abbrev before : Name → Name → Bool
  before = is_linked w Birth

  abbrev among : Name → Name → Bool
  among = is_linked_among w nodes

  abbrev IsNew : Name → Type 0
  IsNew n = is_some (node_in nodes n) ≡ true

  abbrev IsOld : Name → Type 0
  IsOld n = is_some (w.node n) ≡ true

  apart : (n : Name) → IsNew n → IsOld n → ⊥
  apart n new old =
      let y = some_there (node_in nodes n) new in
      let q = node_place nodes n y.0 y.1 in
      let none : w.node n ≡ None = ap w.node (sym q.2) ∙ fresh q.0 y.0 q.1 in
      let f : is_some (w.node n) ≡ false = ap is_some none in
      cc (old, f)

  not_new : (n : Name) → IsOld n → node_in nodes n ≡ None
  not_new n old = by (node_in nodes n) refl where
    by : (o : Option Node) → node_in nodes n ≡ o → o ≡ None
    by None e = refl
    by (Some y) e = absurd (apart n (ap is_some e) old)

  node_same : (n : Name) → IsOld n → W.node n ≡ w.node n
  node_same n old = ap (λ (o : Option Node). or_else o (w.node n)) (not_new n old)

  links_same : (s : Shape) → AllByRecursion IsOld (birth_links w (post_in w) s) → birth_links W (post_in W) s ≡ birth_links w (post_in w) s
  links_same (Switchc c) h = ap (λ (o : Option Val). c ∷ targets o) (ap (λ (o : Option Node). before_of o (w.pre c)) (not_new c h.0))
  links_same (Mapc f c) h = refl
  links_same (Apply cf ca) h = refl
  links_same (Loop to) h = refl
  links_same _ h = refl

  cell_same : (o : Option Node) → is_new_cell W o ≡ is_new_cell w o
  cell_same None = refl
  cell_same (Some x) = refl

  cells_same : (ns : List Name) → AllByRecursion IsOld ns → AllByRecursion (λ n. is_new_cell W (W.node n) ≡ is_new_cell w (w.node n)) ns
  cells_same [] h = tt
  cells_same (n ∷ ns) h = (ap (is_new_cell W) (node_same n h.0) ∙ cell_same (w.node n), cells_same ns h.1)

  record IsBefore (a b : Name) : Type 0 where
    linked : before a b ≡ true
    old : IsOld b

  old_next : (a b : Name) → IsOld a → whole a b ≡ true → IsBefore a b
  old_next a b old h =
      let x = some_there (w.node a) old in
      let lives = older a x.0 x.1 in
      let all = birth_links w (post_in w) x.0.shape in
      let same : links_from W (post_in W) Birth (W.node a) ≡ links_from w (post_in w) Birth (w.node a)
      = ap (links_from W (post_in W) Birth) (node_same a old ∙ x.1)
      ∙ ap (λ ns. if is_new_cell w (Some x.0) then ns else []) (ap (filter (λ n. is_new_cell W (W.node n))) (links_same x.0.shape lives) ∙ same_filter (λ n. is_new_cell W (W.node n)) (λ n. is_new_cell w (w.node n)) all (cells_same all lives))
      ∙ ap (links_from w (post_in w) Birth) (sym x.1) in
      let linked : before a b ≡ true = ap (list_any (λ n. name_eq n b)) (sym same) ∙ h in
      record { linked = linked; old = new_cell_live (w.node b) (chosen_test (is_new_cell w (Some x.0)) all (ap (λ (o : Option Node). list_any (λ n. name_eq n b) (links_from w (post_in w) Birth o)) (sym x.1) ∙ linked)) }
    where
      new_cell_live : (o : Option Node) → is_new_cell w o ≡ true → is_some o ≡ true
      new_cell_live None e = absurd cc
      new_cell_live (Some y) e = refl

      chosen_test : (c : Bool) (ns : List Name) → list_any (λ n. name_eq n b) (if c then filter (λ n. is_new_cell w (w.node n)) ns else []) ≡ true → is_new_cell w (w.node b) ≡ true
      chosen_test false ns e = absurd cc
      chosen_test true ns e = (both_true _ _ (sym (filtered (λ n. is_new_cell w (w.node n)) b (is_new_cell w (w.node b)) refl ns) ∙ e)).0

  -- a node that has a link is new or old
  is_either : (a b : Name) → whole a b ≡ true → IsNew a ⊎ IsOld a
  is_either a b h = by (node_in nodes a) (w.node a) refl refl where
    by : (o p : Option Node) → node_in nodes a ≡ o → w.node a ≡ p → IsNew a ⊎ IsOld a
    by (Some x) p e f = inl (ap is_some e)
    by None (Some x) e f = inr (ap is_some f)
    by None None e f = absurd (
        let none : W.node a ≡ None = (λ i. or_else (e i) (f i)) in
        let z : whole a b ≡ false = ap (λ (o : Option Node). list_any (λ n. name_eq n b) (links_from W (post_in W) Birth o)) none in
        cc (h, z))

  record IsOldPath (ns : List Name) (end : Name) : Type 0 where
    path : is_path before ns end ≡ true
    old : IsOld end

  old_path : (a : Name) (ns : List Name) (end : Name) → IsOld a → is_path whole (a ∷ ns) end ≡ true → IsOldPath (a ∷ ns) end
  old_path a [] end old h =
      let n = old_next a end old (both_true (whole a end) true h).0 in
      record { path = true_both _ _ n.linked refl; old = n.old }
  old_path a (b ∷ ns) end old h =
      let p = both_true (whole a b) (is_path whole (b ∷ ns) end) h in
      let n = old_next a b old p.0 in
      let more = old_path b ns end n.old p.1 in
      record { path = true_both _ _ n.linked more.path; old = more.old }

  record IsNewPath (a : Name) (ns : List Name) (end : Name) : Type 0 where
    path : is_path among (a ∷ ns) end ≡ true
    new : IsNew a

  both_new : (a b : Name) → IsNew a → IsNew b → whole a b ≡ true → among a b ≡ true
  both_new a b new other h = true_both _ _ (true_both _ _ new other) h

  new_path : (a : Name) (ns : List Name) (end : Name) → IsNew end → is_path whole (a ∷ ns) end ≡ true → IsNewPath a ns end
  new_path a [] end new h =
      let l = (both_true (whole a end) true h).0 in
      elim (is_either a end l) [
        | inr old ↦ absurd (apart end new (old_path a [] end old h).old)
        | inl here ↦ record { path = true_both _ _ (both_new a end here new l) refl; new = here }
      ]
  new_path a (b ∷ ns) end new h =
      let p = both_true (whole a b) (is_path whole (b ∷ ns) end) h in
      let more = new_path b ns end new p.1 in
      elim (is_either a b p.0) [
        | inr old ↦ absurd (apart end new (old_path a (b ∷ ns) end old h).old)
        | inl here ↦ record { path = true_both _ _ (both_new a b here more.new p.0) more.path; new = here }
      ]

  -- a closed chain is one of new nodes, or was there before
  closed_either : (n : Name) (ns : List Name) → is_closed_chain whole (n ∷ ns) ≡ true → (is_closed_chain among (n ∷ ns) ≡ true) ⊎ (is_closed_chain before (n ∷ ns) ≡ true)
  closed_either n ns c =
      let p = both_true _ (is_path whole (n ∷ ns) n) c in
      elim (is_either n (first_or ns n) (both_true (whole n (first_or ns n)) (is_path whole ns n) p.1).0) [
        | inl new ↦ inl (true_both _ _ p.0 (new_path n ns n new p.1).path)
        | inr old ↦ inr (true_both _ _ p.0 (old_path n ns n old p.1).path)
      ]

  pub chains_before : ((names : List Name) → is_closed_chain among names ≡ false) → (names : List Name) → is_closed_chain whole names ≡ true → is_closed_chain before names ≡ true
  chains_before none [] c = c
  chains_before none (n ∷ ns) c = elim (closed_either n ns c) [ inl a ↦ absurd (let z = none (n ∷ ns) in cc (a, z)) | inr b ↦ b ]

  pub whole_more : (a b : Name) → among a b ≡ true → whole a b ≡ true
  whole_more a b h = (both_true (is_some (node_in nodes a) && is_some (node_in nodes b)) (whole a b) h).1

  pub chain_new : (names : List Name) → is_closed_chain among names ≡ true → AllByRecursion IsNew names
  chain_new [] c = tt
  chain_new (n ∷ ns) c = new_in (n ∷ ns) n (both_true _ (is_path among (n ∷ ns) n) c).1 where
    new_in : (ns : List Name) (end : Name) → is_path among ns end ≡ true → AllByRecursion IsNew ns
    new_in [] end h = tt
    new_in (m ∷ ns) end h =
        let p = both_true (among m (first_or ns end)) (is_path among ns end) h in
        ((both_true (is_some (node_in nodes m)) _ (both_true (is_some (node_in nodes m) && is_some (node_in nodes (first_or ns end))) _ p.0).0).0, new_in ns end p.1)

  -- where there was no closed chain, what leads to one leads to one of new nodes
  pub leads_new : ((names : List Name) → is_closed_chain before names ≡ false) → (n : Name) → LeadsToChain whole n → LeadsToChain among n
  leads_new none n l = elim (is_either l.first (first_or l.others l.first) (both_true (whole l.first (first_or l.others l.first)) (is_path whole l.others l.first) (both_true _ (is_path whole (l.first ∷ l.others) l.first) l.closed).1).0) [
    | inr old ↦ absurd (
        let c = both_true _ (is_path whole (l.first ∷ l.others) l.first) l.closed in
        let b : is_closed_chain before (l.first ∷ l.others) ≡ true = true_both _ _ c.0 (old_path l.first l.others l.first old c.1).path in
        let z = none (l.first ∷ l.others) in
        cc (b, z))
    | inl new ↦
        let c = both_true _ (is_path whole (l.first ∷ l.others) l.first) l.closed in
        record {
          first = l.first;
          others = l.others;
          closed = true_both _ _ c.0 (new_path l.first l.others l.first new c.1).path;
          way = l.way;
          leads = (new_path n l.way l.first new l.leads).path;
        }
  ]
