use Rattle.vfio_driver.proofs.BroughtLaws.{by_reply, unfit, ready, nothing}
use Rattle.byte_fields.specs.Places.{le64}
use Rattle.vfio_driver.proofs.Opcodes.{opcodes}
use Rattle.vfio_driver.proofs.laws.outcomes_have_their_causes.Goals as goal

pub returns : goal.returns
returns c = record {
  by_reply = λ member stage command ask told at next answers. by_reply member stage command ask told at next answers;
  unfit = λ command told status qualifier bits. unfit command told status qualifier bits;
  ready = λ command told floor. ready command told floor;
  nothing = λ command told. nothing command told;
  opcodes = λ done. opcodes (le64 0 done.payload);
}
