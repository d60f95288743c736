use Rattle.std.proofs.Common.{◌≡◌, true}
use Rattle.rv_step.specs.Effect.{goes}
use Rattle.guest_kernel.specs.Stretch.{ArePlain, going}
use Rattle.guest_kernel.proofs.hart_stretch.go.Given as goal

abbrev pub invariant-loop-step : goal.invariant-loop-step
invariant-loop-step l = (going l.step l.fn.hart l.fn.pages ≡ goes l.hart l.pages) × (l.plain ≡ true → ArePlain l.step l.fn.hart l.fn.pages)
