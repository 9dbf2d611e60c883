use Rattle.frame.specs.Meanings.{create_sequence_response, ack_requested, close_sequence, terminate_sequence}
use Rattle.frame_reader.proofs.reader.Reader.frame.Given as goal

abbrev pub ghost-naming : goal.ghost-naming
ghost-naming a = create_sequence_response

abbrev pub ghost-naming-2 : goal.ghost-naming-2
ghost-naming-2 a = ack_requested

abbrev pub ghost-ending : goal.ghost-ending
ghost-ending a = close_sequence

abbrev pub ghost-ending-2 : goal.ghost-ending-2
ghost-ending-2 a = terminate_sequence
