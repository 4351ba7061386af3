-- Links of a sight that are settled are links of the other sight too, and so a closed chain of the one is one of the other.
use Rattle.std.proofs.Common.{◌≡◌, Bool, true, false, List, [], ◌∷◌, ◌++◌, filter, Option, Some, None, refl, sym, ap, ◌∙◌, subst}
use Rattle.std.proofs.Common.{inl, inr}
use Rattle.std.specs.Prelude.{◌&&◌, ◌||◌, if◌then◌else◌}
use Rattle.std.specs.Option.{option_to_list}
use Rattle.std.specs.List.{list_any, list_all}
use Rattle.std.specs.Ordering.{is_lt}
use Rattle.std.proofs.lemmas.List.Folds.{list_any-append}
use Rattle.frp_base.specs.declared.name.Name.{Name}
use Rattle.frp_base.specs.declared.ty.Ty.{Ty}
use Rattle.frp_base.specs.declared.ty.Ty.TheVariants as t
use Rattle.frp_base.specs.declared.val.Val.{Val}
use Rattle.frp_base.specs.Name.{name_eq, name_cmp, maker}
use Rattle.frp_base.proofs.Booleans.{both_true, true_both, either_true, or_more}
use Rattle.frp_graph.specs.declared.prog.Prog.{Prog}
use Rattle.frp_graph.specs.declared.trace.Node.{Node}
use Rattle.frp_graph.specs.declared.shape.Shape.{Shape}
use Rattle.frp_graph.specs.declared.shape.Shape.TheVariants.{Switchs, Switchc}
use Rattle.frp_graph.specs.declared.evidence.Phase.{Phase}
use Rattle.frp_graph.specs.declared.evidence.Phase.TheVariants.{Birth, During, After}
use Rattle.frp_graph.specs.Trace.{Sight, post_in}
use Rattle.frp_graph.specs.Links.{targets, during_links, after_links, birth_links, is_new, is_new_cell, links_by, first_or, is_path, are_distinct, is_closed_chain}
use Rattle.frp_graph.specs.TypedProg.{is_cell}
use Rattle.frp_graph.specs.Values.{type_among}
use Rattle.frp_graph.specs.WellFormed.{Allows}
use Rattle.frp_graph.proofs.Lists.{name_same}
use Rattle.frp_audit.proofs.Seen.{seen, type_shown, shown_allowed}
use Rattle.frp_audit.proofs.Sides.{Extends, IsSame, holds, Agrees, same_new, pre_stays}
use Rattle.frp_audit.proofs.Firsts.{among_filtered}
use Rattle.frp_audit.proofs.Back.{pre_same}

-- Closed chains, where links are more.
module _ (few many : Name → Name → Bool) (more : (a b : Name) → few a b ≡ true → many a b ≡ true) where
  path_more : (ns : List Name) (end : Name) → is_path few ns end ≡ true → is_path many ns end ≡ true
  path_more [] end h = refl
  path_more (n ∷ ns) end h = let p = both_true _ _ h in true_both _ _ (more n (first_or ns end) p.0) (path_more ns end p.1)

  pub chain_more : (ns : List Name) → is_closed_chain few ns ≡ true → is_closed_chain many ns ≡ true
  chain_more [] h = h
  chain_more (n ∷ ns) h =
      let p = both_true (are_distinct (n ∷ ns) && list_all (λ k. is_lt (name_cmp n k)) ns) (is_path few (n ∷ ns) n) h in
      true_both _ _ p.0 (path_more (n ∷ ns) n p.1)

abbrev Among : Name → List Name → Type 0
Among b ns = list_any (λ n. name_eq n b) ns ≡ true

among_both : (b : Name) (xs ys us vs : List Name) → (Among b xs → Among b us) → (Among b ys → Among b vs) → Among b (xs ++ ys) → Among b (us ++ vs)
among_both b xs ys us vs f g h =
    let p = either_true _ _ (sym (list_any-append (λ n. name_eq n b) xs ys) ∙ h) in
    list_any-append (λ n. name_eq n b) us vs ∙ elim p [
      | inl l ↦ (let here = f l in rw here refl)
      | inr r ↦ or_more (list_any (λ n. name_eq n b) us) _ (g r)
    ]

-- a name among those that pass a test passes it
filtered_passes : (q : Name → Bool) (b : Name) (ns : List Name) → Among b (filter q ns) → (q b ≡ true) × Among b ns
filtered_passes q b [] h = absurd cc
filtered_passes q b (k ∷ ks) h = by (q k) refl h (filtered_passes q b ks) where
  by : (c : Bool) → q k ≡ c → Among b (if c then k ∷ filter q ks else filter q ks) → (Among b (filter q ks) → (q b ≡ true) × Among b ks) → (q b ≡ true) × Among b (k ∷ ks)
  by false e h more = let p = more h in (p.0, or_more (name_eq k b) _ p.1)
  by true e h more = elim (either_true (name_eq k b) _ h) [
    | inl s ↦ (subst (λ j. q j ≡ true) (name_same k b s) e, ap (λ c. c || list_any (λ n. name_eq n b) ks) s)
    | inr r ↦ (let p = more r in (p.0, or_more (name_eq k b) _ p.1))
  ]

-- One node's links.
module _ (prog : Prog) (old w u : Sight) (ew : Extends old w) (eu : Extends old u) (shown fired : Name → Bool) (agrees : Agrees prog w u shown fired)
    (after : Name → Option Val) (settled : (c : Name) (v : Val) → after c ≡ Some v → (fired c ≡ true) × (post_in w c ≡ Some v))
    (nodes : (n : Name) (x : Node) → w.node n ≡ Some x → IsSame x (u.node n)) where
  abbrev part : Sight
  part = seen w shown (holds w) fired

  pre_other : (c : Name) (a : Ty) (v : Val) → type_among part.node c ≡ Some (t.Cell a) → w.pre c ≡ Some v → u.pre c ≡ Some v
  pre_other c a v h e = pre_stays prog old w u ew eu shown fired agrees c v (pre_same prog w shown fired agrees.formed c a h ∙ e)

  after_other : (c : Name) (a : Ty) (v : Val) → type_among part.node c ≡ Some (t.Cell a) → after c ≡ Some v → post_in u c ≡ Some v
  after_other c a v h e =
      let s = settled c v e in
      let x = type_shown w shown (holds w) fired c (t.Cell a) h in
      let occ : u.occ c ≡ w.occ c = agrees.occs c x.1 s.0 x.2 in
      by (w.occ c) refl occ s.1
    where
      by : (o : Option Val) → w.occ c ≡ o → u.occ c ≡ w.occ c → post_in w c ≡ Some v → post_in u c ≡ Some v
      by (Some y) q occ p =
          let there : u.occ c ≡ Some y = occ ∙ q in
          let same : ◌≡◌ {A = Option Val} (Some y) (Some v) = rw q at p in
          rw there same
      by None q occ p =
          let there : u.occ c ≡ None = occ ∙ q in
          let before : w.pre c ≡ Some v = rw q at p in
          rw there (pre_other c a v h before)

  targets_more : (b : Name) (o p : Option Val) → ((v : Val) → o ≡ Some v → p ≡ Some v) → Among b (targets o) → Among b (targets p)
  targets_more b None p f h = absurd cc
  targets_more b (Some v) p f h = let e = f v refl in rw e h

  outer_more : (b c : Name) (o p : Option Val) → ((v : Val) → o ≡ Some v → p ≡ Some v) → Among b (c ∷ targets o) → Among b (c ∷ targets p)
  outer_more b c o p f h = elim (either_true (name_eq c b) _ h) [
    | inl e ↦ ap (λ k. k || list_any (λ n. name_eq n b) (targets p)) e
    | inr r ↦ or_more (name_eq c b) _ (targets_more b o p f r)
  ]

  during_more : (b : Name) (a : Ty) (s : Shape) → Allows prog part a s → Among b (during_links w after s) → Among b (during_links u (post_in u) s)
  during_more b a (Switchs c) (source, kind) h = targets_more b (w.pre c) (u.pre c) (λ v e. pre_other c a v source e) h
  during_more b a (Switchc c) (source, kind) h = outer_more b c (after c) (post_in u c) (λ v e. after_other c a v source e) h
  during_more b a _ p h = h

  after_more : (b : Name) (a : Ty) (s : Shape) → Allows prog part a s → Among b (after_links w after s) → Among b (after_links u (post_in u) s)
  after_more b a (Switchs c) (source, kind) h = targets_more b (after c) (post_in u c) (λ v e. after_other c a v source e) h
  after_more b a (Switchc c) (source, kind) h = outer_more b c (after c) (post_in u c) (λ v e. after_other c a v source e) h
  after_more b a _ p h = h

  birth_more : (b : Name) (a : Ty) (s : Shape) → Allows prog part a s → Among b (birth_links w after s) → Among b (birth_links u (post_in u) s)
  birth_more b a (Switchc c) (source, kind) h = outer_more b c (w.pre c) (u.pre c) (λ v e. pre_other c a v source e) h
  birth_more b a _ p h = h

  new_cell : (n : Name) (x y : Node) → y.name ≡ x.name → y.ty ≡ x.ty → is_new_cell w (Some x) ≡ true → is_new_cell u (Some y) ≡ true
  new_cell n x y name ty h =
      let p = both_true _ _ h in
      true_both _ _ (ap (is_new u) name ∙ same_new prog old w u ew eu x.name ∙ p.0) (ap is_cell ty ∙ p.1)

  new_other : (b : Name) → is_new_cell w (w.node b) ≡ true → is_new_cell u (u.node b) ≡ true
  new_other b = by (w.node b) refl where
    by : (o : Option Node) → w.node b ≡ o → is_new_cell w o ≡ true → is_new_cell u (u.node b) ≡ true
    by None e h = absurd cc
    by (Some x) e h = let s = nodes b x e in let there = s.found in rw there (new_cell b x s.node s.name s.ty h)

  module _ (n : Name) (x : Node) (s : shown n ≡ true) (live : w.node n ≡ Some x) (y : Node) (name : y.name ≡ x.name) (shape : y.shape ≡ x.shape) (ty : y.ty ≡ x.ty) where
    allowed : Allows prog part x.ty x.shape
    allowed = shown_allowed prog w shown (holds w) fired n x agrees.formed s live

    maker_more : (b : Name) → Among b (if is_new w x.name then option_to_list (maker x.name) else []) → Among b (if is_new u y.name then option_to_list (maker y.name) else [])
    maker_more b h =
        let new : is_new u y.name ≡ is_new w x.name = ap (is_new u) name ∙ same_new prog old w u ew eu x.name in
        rw (new, name) h

    during : (b : Name) → Among b (during_links w after x.shape) → Among b (during_links u (post_in u) y.shape)
    during b h = subst (λ (z : Shape). Among b (during_links u (post_in u) z)) (sym shape) (during_more b x.ty x.shape allowed h)

    pub links_more : (phase : Phase) (b : Name) → Among b (links_by w after phase x) → Among b (links_by u (post_in u) phase y)
    links_more During b h = among_both b (during_links w after x.shape) _ (during_links u (post_in u) y.shape) _ (during b) (maker_more b) h
    links_more After b h = subst (λ (z : Shape). Among b (after_links u (post_in u) z)) (sym shape) (after_more b x.ty x.shape allowed h)
    links_more Birth b h = by (is_new_cell w (Some x)) refl h where
      by : (c : Bool) → is_new_cell w (Some x) ≡ c → Among b (if c then filter (λ k. is_new_cell w (w.node k)) (birth_links w after x.shape) else [])
          → Among b (if is_new_cell u (Some y) then filter (λ k. is_new_cell u (u.node k)) (birth_links u (post_in u) y.shape) else [])
      by false e h = absurd cc
      by true e h =
          let own : is_new_cell u (Some y) ≡ true = new_cell n x y name ty e in
          let p = filtered_passes (λ k. is_new_cell w (w.node k)) b (birth_links w after x.shape) h in
          let there = subst (λ (z : Shape). Among b (birth_links u (post_in u) z)) (sym shape) (birth_more b x.ty x.shape allowed p.1) in
          rw own (among_filtered (λ k. is_new_cell u (u.node k)) b (birth_links u (post_in u) y.shape) (new_other b p.0) there)
