use Rattle.stab_results.proofs.byte_buffer.ByteBuffer.put_shot.Goals as goal

pub returns-in-F01 : goal.returns-in-F01
returns-in-F01 g c = record { puts = rw c.in-F01.is c.put_f01.ensures.puts }

pub returns-in-B8 : goal.returns-in-B8
returns-in-B8 g c = record { puts = rw c.in-B8.is c.put_b8.ensures.puts }

pub returns-in-R8 : goal.returns-in-R8
returns-in-R8 g c = record { puts = rw c.in-R8.is c.put_r8.ensures.puts }

pub returns-in-Hits : goal.returns-in-Hits
returns-in-Hits g c = record { puts = rw c.in-Hits.is c.put_hits.ensures.puts }

pub returns-in-Dets : goal.returns-in-Dets
returns-in-Dets g c = record { puts = rw c.in-Dets.is c.put_dets.ensures.puts }
