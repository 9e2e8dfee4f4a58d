-- How many bytes an access has, and where it goes.
use Rattle.std.proofs.Common.{◌≡◌, ℕ, Bool, true, false, refl, arith}
use Rattle.std.specs.Prelude.{if◌then◌else◌}
use Rattle.std.proofs.lemmas.Bool.Decides.{nat_tests}
use Rattle.script_words.specs.Values.{is_width}
use Rattle.legacy_regs.specs.declared.device.Kind.{Kind}
use Rattle.io_bar.specs.declared.access.Access.{Access}
use Rattle.io_bar.specs.declared.access.Access.TheVariants.{Read, Write}
use Rattle.io_bar.specs.declared.access.Route.TheVariants.{Command, Doorbell, Local}
use Rattle.io_bar.specs.Route.{is_local, passed_on, route_of, rings_doorbell, write_command, device_base}
use Rattle.byte_fields.specs.Places.{le16}
use Rattle.lone_device.specs.Past.{IsWidth}

pub width_is : (n : ℕ) → is_width n ≡ true → IsWidth n
width_is n good = grind (arith, nat_tests, good)

-- what is passed on doesn't stay with the host
pub passed : (msix : Bool) (access : Access) → passed_on msix access ≡ Local → ⊥
passed msix (Read offset count) is = cc
passed msix (Write offset bytes) is = go (rings_doorbell offset bytes) is
  where
    go : (b : Bool) → (if b then Doorbell (le16 0 bytes) else Command (write_command (device_base msix) offset bytes)) ≡ Local → ⊥
    go true is = cc
    go false is = cc

pub stays_is : (kind : Kind) (msix io : Bool) (access : Access) → route_of kind msix io access ≡ Local → true ≡ is_local kind io access
stays_is kind msix io access is = go (is_local kind io access) is
  where
    go : (b : Bool) → (if b then Local else passed_on msix access) ≡ Local → true ≡ b
    go true is = refl
    go false is = absurd (passed msix access is)
