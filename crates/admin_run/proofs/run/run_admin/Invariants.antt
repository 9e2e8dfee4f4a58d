use Rattle.std.proofs.Common.{◌≡◌, ◌++◌, drop}
use Rattle.admin_run.specs.Group.{first_group}
use Rattle.admin_run.specs.Answers.{answers}
use Rattle.admin_run.proofs.run.run_admin.Given as goal

-- the lines before the place are answered, and those that are left complete the output
abbrev pub invariant-lines : goal.invariant-lines
invariant-lines l = answers first_group l.text ≡ l.output.items ++ answers l.group (drop l.index l.text)
