use Rattle.frp_graph.proofs.Leads as leads
use Rattle.frp_graph.proofs.shape_laws.links_lead.Goals as goal

pub returns : goal.returns
returns c = leads.links_lead
