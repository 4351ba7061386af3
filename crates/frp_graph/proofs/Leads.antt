-- Where a link leads: to an operand, to the node that an operand's value refers to, or to the maker of its node.
use Rattle.std.proofs.Common.{◌≡◌, ◌⊎◌, Bool, true, false, List, [], ◌∷◌, ◌++◌, filter, Option, Some, None, refl, sym, ap, ◌∙◌}
use Rattle.std.proofs.Common.{inl, inr}
use Rattle.std.specs.Prelude.{if◌then◌else◌}
use Rattle.std.specs.List.{list_any}
use Rattle.std.specs.Option.{option_to_list}
use Rattle.std.proofs.lemmas.List.Folds.{list_any-append}
use Rattle.frp_base.specs.declared.name.Name.{Name}
use Rattle.frp_base.specs.declared.val.Val.{Val}
use Rattle.frp_base.specs.Name.{name_eq, maker}
use Rattle.frp_graph.specs.declared.shape.Shape.{Shape}
use Rattle.frp_graph.specs.declared.shape.Shape.TheVariants.{Snapshot, Split, Loop, Mapc, Apply, Switchs, Switchc}
use Rattle.frp_graph.specs.declared.evidence.Phase.TheVariants.{Birth, During, After}
use Rattle.frp_graph.specs.Trace.{Sight}
use Rattle.frp_graph.specs.Applied.{target}
use Rattle.frp_graph.specs.Links.{targets, operands, fixed_links, during_links, after_links, birth_links, is_new, is_new_cell}
use Rattle.frp_graph.specs.ShapeLaws.{IsHeld, LinksLead}
use Rattle.frp_graph.proofs.Lists.{name_same, name_eq-same}
use Rattle.frp_base.proofs.Booleans.{either_true, or_true}

-- A name among names.

module _ (n : Name) where
  abbrev pub IsAmong : List Name → Type 0
  IsAmong ns = list_any (λ k. name_eq k n) ns ≡ true

  in_either : (xs ys : List Name) → IsAmong (xs ++ ys) → IsAmong xs ⊎ IsAmong ys
  in_either xs ys h = either_true _ _ (sym (list_any-append (λ k. name_eq k n) xs ys) ∙ h)

  in_rest : (k : Name) (ns : List Name) → IsAmong ns → IsAmong (k ∷ ns)
  in_rest k ns h = rw h (or_true (name_eq k n))

  is_one : (k : Name) → IsAmong (k ∷ []) → k ≡ n
  is_one k h = elim (either_true (name_eq k n) false h) [ inl e ↦ name_same k n e | inr r ↦ absurd cc ]

  in_filtered : (p : Name → Bool) (ns : List Name) → IsAmong (filter p ns) → IsAmong ns
  in_filtered p [] h = h
  in_filtered p (k ∷ ns) h = by (p k) h (in_filtered p ns) where
    by : (b : Bool) → IsAmong (if b then k ∷ filter p ns else filter p ns) → (IsAmong (filter p ns) → IsAmong ns)
        → IsAmong (k ∷ ns)
    by true h more = elim (either_true (name_eq k n) _ h) [ inl e ↦ rw e refl | inr r ↦ in_rest k ns (more r) ]
    by false h more = in_rest k ns (more h)

  is_that : (b : Bool) (o : Option Name) → IsAmong (if b then option_to_list o else []) → o ≡ Some n
  is_that true (Some k) h = ap Some (is_one k h)
  is_that true None h = absurd cc
  is_that false o h = absurd cc

  -- what a cell's value refers to
  referred : (o : Option Val) → IsAmong (targets o) → (v : Val) × (o ≡ Some v) × (target v ≡ n)
  referred (Some v) h = (v, refl, is_one (target v) h)
  referred None h = absurd cc

  held : (value : Name → Option Val) (c : Name) → IsAmong (targets (value c)) → IsHeld (c ∷ []) value n
  held value c h =
      let v = referred (value c) h in
      record { cell = c; is_operand = rw (name_eq-same c) refl; held = v.0; has_held = v.1; refers = v.2 }

  -- The links of each phase.

  fixed_lead : (s : Shape) → IsAmong (fixed_links s) → IsAmong (operands s)
  fixed_lead (Snapshot f s c) h = elim (either_true (name_eq s n) false h) [ inl e ↦ rw e refl | inr r ↦ absurd cc ]
  fixed_lead (Split s) h = absurd cc
  fixed_lead (Switchs c) h = absurd cc
  fixed_lead (Switchc c) h = absurd cc
  fixed_lead s h = h

  module _ (w : Sight) (after : Name → Option Val) where
    -- to an operand, or to what one holds before or after
    abbrev Leads : Shape → Type 0
    Leads s = IsAmong (operands s) ⊎ (IsHeld (operands s) w.pre n ⊎ IsHeld (operands s) after n)

    here_or_held : (c : Name) (value : Name → Option Val) → IsAmong (c ∷ targets (value c))
        → (IsHeld (c ∷ []) value n → Leads (Switchc c)) → Leads (Switchc c)
    here_or_held c value h lead =
        elim (either_true (name_eq c n) _ h) [ inl e ↦ inl (rw e refl) | inr r ↦ lead (held value c r) ]

    during_lead : (s : Shape) → IsAmong (during_links w after s) → Leads s
    during_lead (Switchs c) h = inr (inl (held w.pre c h))
    during_lead (Switchc c) h = here_or_held c after h (λ k. inr (inr k))
    during_lead s h = inl (fixed_lead s h)

    after_lead : (s : Shape) → IsAmong (after_links w after s) → Leads s
    after_lead (Switchs c) h = inr (inr (held after c h))
    after_lead (Switchc c) h = here_or_held c after h (λ k. inr (inr k))
    after_lead s h = inl (fixed_lead s h)

    birth_lead : (s : Shape) → IsAmong (birth_links w after s) → Leads s
    birth_lead (Mapc f c) h = inl h
    birth_lead (Apply cf ca) h = inl h
    birth_lead (Loop to) h = inl h
    birth_lead (Switchc c) h = here_or_held c w.pre h (λ k. inr (inl k))
    birth_lead s h = absurd cc

    -- among cells that are born
    new_lead : (b : Bool) (p : Name → Bool) (s : Shape) → IsAmong (if b then filter p (birth_links w after s) else [])
        → Leads s
    new_lead true p s h = birth_lead s (in_filtered p (birth_links w after s) h)
    new_lead false p s h = absurd cc

or_maker : {A B C D : Type 0} → A ⊎ (B ⊎ C) → A ⊎ (B ⊎ (C ⊎ D))
or_maker (inl a) = inl a
or_maker (inr (inl b)) = inr (inl b)
or_maker (inr (inr c)) = inr (inr (inl c))

pub links_lead : LinksLead
links_lead w after During x n h = elim (in_either n (during_links w after x.shape) _ h) [
  | inl d ↦ or_maker (during_lead n w after x.shape d)
  | inr m ↦ inr (inr (inr (is_that n (is_new w x.name) (maker x.name) m)))
]
links_lead w after After x n h = or_maker (after_lead n w after x.shape h)
links_lead w after Birth x n h =
    or_maker (new_lead n w after (is_new_cell w (Some x)) (λ k. is_new_cell w (w.node k)) x.shape h)
