-- A program with more nodes than the limit, and the evidence of that.
use Rattle.std.proofs.Common.{◌≡◌, ◌<◌, true, List, [], ◌∷◌, length, refl, arith, inl}
use Rattle.std.specs.List.{list_all}
use Rattle.frp_base.proofs.Booleans.{both_true}
use Rattle.frp_base.specs.Name.{declared_name}
use Rattle.frp_graph.specs.declared.prog.Prog.{Prog}
use Rattle.frp_graph.specs.declared.prog.Line3.{Line3}
use Rattle.frp_graph.specs.declared.prog.Line3.TheVariants as line
use Rattle.frp_graph.specs.declared.evidence.Evidence.{Evidence}
use Rattle.frp_graph.specs.declared.evidence.Why.TheVariants.{Full}
use Rattle.frp_graph.specs.Births.{build, size_of, file_plans}
use Rattle.frp_graph.specs.Limits.{program_limits}
use Rattle.frp_graph.proofs.Instances.{files_are_whole}
use Rattle.frp_core.specs.Small.{is_built, is_built_line}
use Rattle.frp_run.specs.Answers.{IsTooLargeProg}

-- each line of a program that is built makes a node
size_of_lines : (ls : List Line3) → list_all is_built_line ls ≡ true → size_of ls ≡ length ls
size_of_lines [] h = refl
size_of_lines (line.Node x shape ∷ ls) h = let e : size_of ls ≡ length ls = size_of_lines ls (both_true _ _ h).1 in omega arith
size_of_lines (line.Get c ∷ ls) h = absurd cc

pub size_built : (prog : Prog) → is_built prog ≡ true → size_of prog.body.lines ≡ length prog.body.lines
size_built prog h = size_of_lines prog.body.lines h

abbrev evidence : Evidence
evidence = record {
  done = [];
  last = record { time = build; born = []; fired = [] };
  ranks = [];
  level = 0;
  why = Full (declared_name program_limits.nodes) program_limits.nodes;
}

pub too_large : (prog : Prog) → is_built prog ≡ true → program_limits.nodes < length prog.body.lines → IsTooLargeProg prog
too_large prog built many =
    let size : size_of prog.body.lines ≡ length prog.body.lines = size_built prog built in
    let made : length (file_plans prog) ≡ length prog.body.lines = files_are_whole prog size in
    record {
      too_large = omega arith;
      evidence = evidence;
      of_kind = refl;
      is_refused = inl (record { of_build = refl; first_moment = refl; nothing = refl; no_ranks = refl; too_many = omega arith; cause = refl; room = omega arith });
    }
