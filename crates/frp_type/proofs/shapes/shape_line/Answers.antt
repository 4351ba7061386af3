use Rattle.std.proofs.Common.{◌≡◌, ◌++◌, sym, subst, ◌∙◌}
use Rattle.std.specs.Prelude.{OnOk}
use Rattle.frp_file.specs.declared.file.ShapeForm.{ShapeForm}
use Rattle.frp_file.specs.declared.file.ShapeForm.TheVariants as form
use Rattle.frp_type.specs.Known.{lam_in}
use Rattle.frp_type.specs.Meaning.{code_in}
use Rattle.frp_type.specs.States.{here}
use Rattle.frp_type.proofs.shapes.shape_line.Goals as goal

pub returns-in-Map-clause-codes : goal.returns-in-Map-clause-codes
returns-in-Map-clause-codes c = subst (λ (s : ShapeForm). OnOk c.map.result (c.map.new.codes ≡ c.args.codes.now ++ code_in (here c.args.scope.now c.args.codes.now) (lam_in s))) ((λ i. form.Map c.in-Map.x c.in-Map.s (c.get-in-Map-2.ensures i)) ∙ sym c.in-Map.is) c.map.ensures.codes

pub returns-in-Mapc-clause-codes : goal.returns-in-Mapc-clause-codes
returns-in-Mapc-clause-codes c = subst (λ (s : ShapeForm). OnOk c.mapc.result (c.mapc.new.codes ≡ c.args.codes.now ++ code_in (here c.args.scope.now c.args.codes.now) (lam_in s))) ((λ i. form.Mapc c.in-Mapc.x c.in-Mapc.c (c.get-in-Mapc-2.ensures i)) ∙ sym c.in-Mapc.is) c.mapc.ensures.codes

pub returns-in-Filter-clause-codes : goal.returns-in-Filter-clause-codes
returns-in-Filter-clause-codes c = subst (λ (s : ShapeForm). OnOk c.filter.result (c.filter.new.codes ≡ c.args.codes.now ++ code_in (here c.args.scope.now c.args.codes.now) (lam_in s))) ((λ i. form.Filter c.in-Filter.x c.in-Filter.s (c.get-in-Filter-2.ensures i)) ∙ sym c.in-Filter.is) c.filter.ensures.codes

pub returns-in-Merge-clause-codes : goal.returns-in-Merge-clause-codes
returns-in-Merge-clause-codes c = subst (λ (s : ShapeForm). OnOk c.merge.result (c.merge.new.codes ≡ c.args.codes.now ++ code_in (here c.args.scope.now c.args.codes.now) (lam_in s))) ((λ i. form.Merge c.in-Merge.x c.in-Merge.y c.in-Merge.a c.in-Merge.b (c.get-in-Merge-3.ensures i)) ∙ sym c.in-Merge.is) c.merge.ensures.codes

pub returns-in-Snapshot-clause-codes : goal.returns-in-Snapshot-clause-codes
returns-in-Snapshot-clause-codes c = subst (λ (s : ShapeForm). OnOk c.snapshot.result (c.snapshot.new.codes ≡ c.args.codes.now ++ code_in (here c.args.scope.now c.args.codes.now) (lam_in s))) ((λ i. form.Snapshot c.in-Snapshot.x c.in-Snapshot.y c.in-Snapshot.s c.in-Snapshot.c (c.get-in-Snapshot-3.ensures i)) ∙ sym c.in-Snapshot.is) c.snapshot.ensures.codes
