mod LineCases
