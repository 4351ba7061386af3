use Rattle.std.proofs.lemmas.Result.{on_ok_weaker}
use Rattle.frp_gen.proofs.Appends.{three_appended}
use Rattle.frp_gen.proofs.generator.write_filter.Goals as goal

pub returns : goal.returns
returns c =
    on_ok_weaker c.push_str.result
    (λ e. three_appended c.args.out.now _ _ _ _ _ _ c.in_ok-write_around.ensures c.in_ok-write_number.ensures e)
    c.push_str.ensures.ok
