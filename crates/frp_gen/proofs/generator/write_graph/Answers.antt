use Rattle.std.proofs.lemmas.Result.{on_ok_weaker}
use Rattle.frp_gen.proofs.Appends.{three_appended}
use Rattle.frp_gen.proofs.generator.write_graph.Goals as goal

pub returns-clause-text : goal.returns-clause-text
returns-clause-text c =
    on_ok_weaker c.push_str-2.result
    (λ e. three_appended c.args.out.now _ _ _ _ _ _ c.in_ok-push_str.ensures.ok c.in_ok-write_items.ensures.text e)
    c.push_str-2.ensures.ok
