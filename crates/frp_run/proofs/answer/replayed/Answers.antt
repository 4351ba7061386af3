use Rattle.std.proofs.Common.{◌≡◌, List, ℕ, ◌∙◌, ap, sym, subst, arith}
use Rattle.std.proofs.lemmas.Grind.{common_steps}
use Rattle.std.proofs.lemmas.Result.{IfOk-weaker}
use Rattle.frp_base.specs.declared.name.Name.{Name}
use Rattle.frp_graph.specs.declared.prog.Prog.{Prog}
use Rattle.frp_graph.specs.declared.trace.Fact.{Fact}
use Rattle.frp_graph.specs.declared.trace.Moment.{Moment}
use Rattle.frp_graph.specs.Limits.{program_limits}
use Rattle.frp_history.specs.declared.history.Entry.{Entry}
use Rattle.frp_history.specs.Legal.{IsLegal}
use Rattle.frp_history.specs.Sessions.{IsSession}
use Rattle.frp_report.specs.Report.{report_text}
use Rattle.frp_run.specs.Answers.{IsReportOf}
use Rattle.frp_run.specs.Runs.{script_cmds}
use Rattle.frp_run.proofs.answer.replayed.Goals as goal

pub returns : goal.returns
returns c =
    let l : c.as_slice.result.now ≡ c.args.typed.listens = grind (arith, common_steps) in
    let s : c.as_slice-2.result.now ≡ c.args.typed.scripts = grind (arith, common_steps) in
    let p : c.in_ok-core.core.prog ≡ c.args.typed.prog = grind (arith, common_steps) in
    IfOk-weaker c.report.result (λ (text : List ℕ). text ≡ report_text c.entries.result.now c.trace.result.now) (λ (text : List ℕ). IsReportOf c.args.typed text)
    (λ (text : List ℕ) e. record {
      entries = c.in_ok-core.core.entries;
      trace = c.in_ok-core.core.trace;
      is_typed = c.requires.runnable.typed;
      is_session = subst (λ (ls : List Name). IsSession ls (script_cmds c.args.typed.scripts) c.in_ok-core.core.entries) l
          (subst (λ (ss : List (List Fact)). IsSession c.as_slice.result.now (script_cmds ss) c.in_ok-core.core.entries) s c.in_ok-core.ensures.session);
      is_legal = subst (λ (p : Prog). IsLegal p program_limits c.in_ok-core.core.entries c.in_ok-core.core.trace) p c.entries.ensures.legal;
      is_report = e ∙ ap (λ (es : List Entry). report_text es c.trace.result.now) c.entries.ensures.entries ∙ ap (λ (m : List Moment). report_text c.in_ok-core.core.entries m) c.trace.ensures.trace;
    })
    c.report.ensures
