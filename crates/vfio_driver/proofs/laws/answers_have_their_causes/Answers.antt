use Rattle.vfio_driver.proofs.HeardLaws.{local, ones, full_is, no_memory, read_back, written, unanswered}
use Rattle.vfio_driver.proofs.laws.answers_have_their_causes.Goals as goal

pub returns : goal.returns
returns c = record {
  local = λ known route. local known route;
  ones = λ guest queue known route x past run. ones guest known queue route x past run;
  refused_full = λ guest queue known route x past full place run. full_is guest known queue route x past full place run;
  refused_memory = λ guest queue known route x past run. no_memory guest known queue route x past run;
  read_back = λ guest queue known route x past bytes run. read_back guest known queue route x past bytes run;
  written = λ guest queue known route x past run. written guest known queue route x past run;
  unanswered = λ guest queue known route x past run. unanswered guest known queue route x past run;
}
