-- How a `Seq` stores its items, for a type that leads back to itself through one, as a value that is a list of values.
-- Contracts see a `Seq` as a list, so it is shaped, measured and emptied as a list is; that its memory is laid out alike
-- for two types of items follows from the same of its one field, a `Vec`.
use base.Stored.{code_map}
use denote.Hole.Carrier.{listed, list-listed}
use denote.Hole.Fix.{over}
use denote.HoleLaws.{Alike}
use denote.HolePlaces.{Recodes, struct_places, laid}
use denote.Model.Placed.{view_places}
use denote.Param.Weighed.{Weighed, w_list}
use denote.RattleType.{RattleType}
use mathlib.Core.Former.{Former, this, list, via, children}
use mathlib.Core.List.{List, []}
use mathlib.Core.Path.{◌≡◌, refl, sym}
use Rattle.std.specs.contracts.alloc.Global as global
use Rattle.std.specs.contracts.impls.GlobalAllocator.TheImpl as allocator
use Rattle.std.specs.declared.alloc.Global.{Global}
use Rattle.std.specs.formers.vec.Vec as vec
use Rattle.frp_base.specs.contracts.seq.Seq as contract
use Rattle.frp_base.specs.contracts.seq.Seq.TheInside as inside
use Rattle.frp_base.specs.declared.seq.Seq.TheInside.{Inside}
use Rattle.frp_base.specs.declared.seq.Seq.TheView.{view, invariant}

-- As a list.

abbrev pub the_former : Former {0} → Former {0}
the_former = list

abbrev pub the_weighed : {item : Former {0}} → Weighed item → Weighed (the_former item)
the_weighed = w_list

pub the_empty : List ⊥
the_empty = []

abbrev pub the_items : (T : Type 0) → List T → List T
the_items T items = items

pub the_items_listed : (T : Type 0) (items : List T) → listed _ (children (the_former this) T items) ≡ the_items T items
the_items_listed = list-listed

-- By its field.

abbrev field : Former {0}
field = via (vec.the_former this Global) Inside (λ T fields. fields.items) (λ T items. record { items = items }) (λ T fields. refl) (λ T items. refl)

module _ (R S : RattleType) (f : R.Denot → S.Denot) where
  field_placed : Alike R S f → Alike (inside.the_row R) (inside.the_row S) (field.map R.Denot S.Denot f)
  field_placed alike =
      let items = vec.the_places global.the_row allocator.ghosts R S f alike in
      struct_places (inside.the_type R) (inside.the_type S) (vec.mapped f, tt) _ (λ fields. refl) refl (laid _ _ _ items, tt)

  pub the_places : Alike R S f → Alike (contract.the_row R) (contract.the_row S) ((the_former this).map R.Denot S.Denot f)
  the_places alike = view_places field (list this) view (λ T U g fields. refl) (λ T fields. refl) R.Denot S.Denot f
      (contract.the_row R).coded (contract.the_row S).coded (invariant R.Denot) (invariant S.Denot)
      (λ fields p q. refl) (λ fields p q. refl) (λ fields kept. tt) (λ fields kept. tt)
      (over (inside.the_row R)) (over (inside.the_row S)) (field_placed alike)

  pub the_codes_placed : Recodes R S f → Recodes (contract.the_row R) (contract.the_row S) ((the_former this).map R.Denot S.Denot f)
  the_codes_placed same items = sym (code_map R.coded.code S.coded.code f (λ item. sym (same item)) items)
