use Rattle.o2_conf.proofs.conf.Conf.read.Goals as goal

pub returns-clause-within : goal.returns-clause-within
returns-clause-within c =
    let n = c.in_ok-numbers.ensures.within in
    record {
      memory = n.memory;
      paragraphs = n.paragraphs;
      swap = n.swap;
      segments = n.segments;
      budget = n.budget;
      quantum = n.quantum;
      modules = c.in_ok-modules.ensures.count;
      process = rw c.new-process.ensures c.in_ok-processes.ensures.count;
      environments = rw c.new-process.ensures c.in_ok-processes.ensures.fits;
      script = rw c.new-script.ensures c.in_ok-script.ensures.count;
    }
