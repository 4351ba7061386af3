use Rattle.std.proofs.Common.{◌≡◌, ◌∙◌, refl, sym, ap}
use Rattle.std.specs.Prelude.{pos}
use Rattle.frp_base.specs.declared.val.Val.{Val, out-Val}
use Rattle.frp_base.specs.declared.val.Val.TheOpen.{Val-F}
use Rattle.frp_base.specs.declared.val.Val.TheOpen as o
use Rattle.frp_base.specs.declared.val.Val.TheVariants as v
use Rattle.frp_rows.specs.Writing.{item}
use Rattle.frp_rows.proofs.Computing.{out-int, out-present}
use Rattle.frp_rows.proofs.refuses_whole_options.Goals as goal

number_present : v.Int (pos 4) ≡ v.Present (v.Int (pos 4)) → ⊥
number_present h =
    let e : ◌≡◌ {A = Val-F Val} (o.Int (pos 4)) (o.Present (v.Int (pos 4))) = sym (out-int (pos 4)) ∙ ap out-Val h ∙ out-present (v.Int (pos 4)) in
    cc

pub returns : goal.returns
returns c = λ h. number_present (let e = h.1.0 (item 1) _ refl in cc)
