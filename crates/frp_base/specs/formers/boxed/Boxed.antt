-- How a `Boxed` stores its value, for a type that leads back to itself through one, as a pair of values. Contracts see a
-- `Boxed` as its value, so it is shaped and measured as that is; that its memory is laid out alike for two types of
-- values follows from the same of its one field, a `Box`, which is a pointer, an allocator and the value.
use base.Fml.{ftrue}
use base.Stored.{gnil}
use denote.Hole.Fix.{over}
use denote.HoleLaws.{Alike}
use denote.HolePlaces.{Recodes, struct_places, laid, one_value}
use denote.Memory.{part_of}
use denote.Model.Placed.{view_places}
use denote.Param.Weighed.{Weighed}
use denote.RattleType.{RattleType}
use denote.RawPtr.{Ptr}
use denote.Sharing.{nothing}
use mathlib.Core.Former.{Former, this, const, pair, via}
use mathlib.Core.Path.{refl}
use Rattle.std.specs.contracts.alloc.Global as global
use Rattle.std.specs.contracts.boxed.Box as box
use Rattle.std.specs.contracts.impls.GlobalAllocator.TheImpl as allocator
use Rattle.std.specs.declared.alloc.Global.{Global}
use Rattle.std.specs.declared.boxed.Box.{Box}
use Rattle.frp_base.specs.contracts.boxed.Boxed as contract
use Rattle.frp_base.specs.contracts.boxed.Boxed.TheInside as inside
use Rattle.frp_base.specs.declared.boxed.Boxed.TheInside.{Inside}
use Rattle.frp_base.specs.declared.boxed.Boxed.TheView.{view, invariant}

-- As its value.

abbrev pub the_former : Former {0} → Former {0}
the_former value = value

abbrev pub the_weighed : {value : Former {0}} → Weighed value → Weighed (the_former value)
the_weighed weighed = weighed

-- By its field.

abbrev field : Former {0}
field = via (pair (const (Ptr × Global)) this) Inside (λ T fields. ((fields.inner.ptr, fields.inner.alloc), fields.inner.value))
    (λ T parts. record { inner = record { ptr = parts.0.0; alloc = parts.0.1; value = parts.1 } }) (λ T fields. refl) (λ T parts. refl)

-- the box with another value in it
abbrev refilled : {T U : Type 0} → Box T Global → U → Box U Global
refilled filled value = record { ptr = filled.ptr; alloc = filled.alloc; value = value }

abbrev box_row : RattleType → RattleType
box_row T = box.the_row T global.the_row allocator.ghosts

module _ (R S : RattleType) (f : R.Denot → S.Denot) where
  box_placed : Alike R S f → Alike (box_row R) (box_row S) (λ filled. refilled filled (f filled.value))
  unfolding part_of
  box_placed alike = record {
    mir_same = λ i. (box_row (one_value R (alike.mir_same i) (λ _. ftrue) (λ _ _. nothing) gnil)).mir;
    own_same = λ filled i. (box_row (one_value R (alike.mir_same i) (alike.own_same filled.value i) (alike.shr_same filled.value i) gnil)).own_val (refilled filled tt);
    shr_same = λ filled i. (box_row (one_value R (alike.mir_same i) (alike.own_same filled.value i) (alike.shr_same filled.value i) gnil)).shr_at (refilled filled tt);
  }

  field_placed : Alike R S f → Alike (inside.the_row R) (inside.the_row S) (field.map R.Denot S.Denot f)
  field_placed alike =
      struct_places (inside.the_type R) (inside.the_type S) ((λ filled. refilled filled (f filled.value)), tt) _ (λ fields. refl) refl (laid _ _ _ (box_placed alike), tt)

  pub the_places : Alike R S f → Alike (contract.the_row R) (contract.the_row S) ((the_former this).map R.Denot S.Denot f)
  the_places alike = view_places field this view (λ T U g fields. refl) (λ T fields. refl) R.Denot S.Denot f
      (contract.the_row R).coded (contract.the_row S).coded (invariant R.Denot) (invariant S.Denot)
      (λ fields p q. refl) (λ fields p q. refl) (λ fields kept. tt) (λ fields kept. tt)
      (over (inside.the_row R)) (over (inside.the_row S)) (field_placed alike)

  pub the_codes_placed : Recodes R S f → Recodes (contract.the_row R) (contract.the_row S) ((the_former this).map R.Denot S.Denot f)
  the_codes_placed same value = same value
