use Rattle.frp_history.proofs.WindowLemmas as windows
use Rattle.frp_history.proofs.laws.windows_end.Goals as goal

pub returns : goal.returns
returns c = windows.windows_end
