use Rattle.std.proofs.Common.{◌<◌, length}
use Rattle.frp_base.proofs.NameLemmas.{birth_last}
use Rattle.frp_base.proofs.name.Name.birth.Goals as goal

pub returns : goal.returns
returns c =
    let h : 0 < length c.args.self.now = rw (← c.self.view_is) c.self.invariant in
    rw (c.as_slice-stages.ensures, c.deref.ensures, c.self.view_is) (birth_last c.args.self.now _ h)
