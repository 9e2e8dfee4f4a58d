-- When a guest's access is refused for want of memory. Of this project.
use Rattle.std.specs.Prelude.{◌≡◌, Bool, true, false, IsSomeAnd, Option, None, Some}
use Rattle.group_calls.specs.declared.ask.Ask.{Ask}
use Rattle.group_calls.specs.declared.ask.Told.{Told}
use Rattle.vfio_driver.specs.declared.access.Answer.{Answer}
use Rattle.vfio_driver.specs.declared.access.Answer.TheVariants.{RefusedMemory}
use Rattle.actor_core.specs.declared.performer.Ending.{Ending}
use Rattle.actor_core.specs.declared.performer.Ending.TheVariants.{Told as IsTold, Answered}
use Rattle.actor_core.specs.declared.performer.Performer.{Performer}
use Rattle.actor_core.specs.Answered.{IsGuestNumber}
use Rattle.actor_core.specs.Performers.{now_doing, ending_by}

-- the driver gives this answer where no memory was found, for the command or by who carried it out
abbrev pub wants_memory : Answer → Bool
wants_memory RefusedMemory = true
wants_memory _ = false

abbrev pub is_refusal : Ending → Bool
is_refusal IsTold = false
is_refusal (Answered answer) = wants_memory answer

abbrev pub ends_refused : Option Ending → Bool
ends_refused None = false
ends_refused (Some ending) = is_refusal ending

-- the line of a guest ends so by this answer to its ask
abbrev pub IsRefused : Performer → Option Ask → Told → Type 0
IsRefused p given told = IsGuestNumber p.who × IsSomeAnd given (λ ask. ends_refused (ending_by p.driver.known (now_doing p) ask told) ≡ true)
