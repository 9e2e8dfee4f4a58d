-- What each line of the input of `admin` that was read keeps to. Of this project.
use Rattle.std.specs.Prelude.{◌≤◌}
use Rattle.admin_script.specs.declared.line.AdminLine.{AdminLine}
use Rattle.admin_script.specs.declared.line.AdminLine.TheVariants as admin
use Rattle.admin_script.specs.Limits.{function_limit, room_limit}

abbrev pub IsAdminLine : AdminLine → Type 0
IsAdminLine (admin.Vfs count) = count ≤ function_limit
IsAdminLine admin.Reset = Unit {0}
IsAdminLine (admin.Cmd writable bytes) = writable ≤ room_limit
