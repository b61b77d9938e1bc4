mod LineEnds
