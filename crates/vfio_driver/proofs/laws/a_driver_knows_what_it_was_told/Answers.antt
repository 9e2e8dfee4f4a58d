use Rattle.vfio_driver.proofs.HeardLaws.{floor_is, gone_is, answer_is}
use Rattle.vfio_driver.proofs.laws.a_driver_knows_what_it_was_told.Goals as goal

pub returns : goal.returns
returns c = record {
  floor = λ guest queue known route heard run. floor_is guest known queue route heard run.answered run.asked;
  gone = λ guest queue known route heard run. gone_is guest known queue route heard run.answered run.asked;
  answer = λ guest queue known route heard run. answer_is guest known queue route heard run.answered run.asked;
}
