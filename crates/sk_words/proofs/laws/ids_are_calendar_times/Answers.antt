use Rattle.sk_words.proofs.KernelId.{spelled, tested}
use Rattle.sk_words.proofs.laws.ids_are_calendar_times.Goals as goal

pub returns : goal.returns
returns c = λ text. (spelled text, λ t. tested text t.0 t.1)
